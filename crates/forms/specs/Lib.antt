pub mod Faults
pub mod Forms
pub mod Layer
pub mod Parsed
pub mod Takes
pub mod Trees
