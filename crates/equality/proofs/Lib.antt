pub mod Ends
pub mod Firsts
pub mod Named
pub mod Pairs
pub mod Worked
