pub mod Faults
pub mod Chatter
pub mod Outcomes
pub mod Shown
