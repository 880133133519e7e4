pub mod Classes
pub mod Cuts
pub mod Digits
pub mod Faults
pub mod Laying
pub mod Lexing
pub mod Places
pub mod Shapes
