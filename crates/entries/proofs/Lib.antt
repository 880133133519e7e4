pub mod Padding
pub mod Firsts
pub mod Alike
pub mod Filings
pub mod Lookups
