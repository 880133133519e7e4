pub mod Rows
pub mod Turns
pub mod Seats
pub mod Worded
pub mod Clauses
