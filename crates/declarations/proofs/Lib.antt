pub mod Lookups
pub mod Resuming
pub mod Signatures
pub mod Makings
pub mod Parsing
