pub mod Samples
pub mod Scans
pub mod Members
pub mod Worked
