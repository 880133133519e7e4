pub mod Reading
pub mod Reads
pub mod State
pub mod Memory
