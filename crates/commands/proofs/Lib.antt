pub mod Deciding
pub mod Determined
