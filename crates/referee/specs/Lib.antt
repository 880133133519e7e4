pub mod Questions
pub mod Rulings
pub mod Meaning
pub mod Sets
pub mod Samples
pub mod Cases
pub mod Laws
