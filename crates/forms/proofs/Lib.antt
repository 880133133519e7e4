pub mod Groups
pub mod Heads
pub mod Items
pub mod Layers
pub mod Lists
pub mod Spelling
pub mod Unambiguous
