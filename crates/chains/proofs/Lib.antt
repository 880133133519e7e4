pub mod Closures
pub mod Tables
pub mod Rulings
