pub mod Pieces
pub mod Cutting
pub mod Positions
pub mod Laws
pub mod Counted
