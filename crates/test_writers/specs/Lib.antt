pub mod Pairs
pub mod Zeroed
