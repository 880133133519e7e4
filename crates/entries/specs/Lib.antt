pub mod First
pub mod Equality
pub mod Filing
pub mod Clauses
pub mod Few
