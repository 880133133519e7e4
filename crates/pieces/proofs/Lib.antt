pub mod Tallies
pub mod Balance
pub mod Closing
pub mod Cutting
pub mod Feeds
