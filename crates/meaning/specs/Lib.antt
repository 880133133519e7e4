pub mod Sorts
pub mod Proper
pub mod Values
pub mod Truth
pub mod Laws
