pub mod Built
pub mod Sorted
pub mod Values
pub mod Propers
pub mod Literals
pub mod Clauses
pub mod Strips
mod Samples
