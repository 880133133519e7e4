pub mod Faults
pub mod Words
pub mod Known
pub mod Signatures
pub mod Declaring
pub mod Calls
