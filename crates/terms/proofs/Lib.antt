pub mod Calls
pub mod Claims
pub mod Leaves
pub mod Midway
pub mod Placing
pub mod Turns
