pub mod Applying
pub mod Difference
pub mod Walks
