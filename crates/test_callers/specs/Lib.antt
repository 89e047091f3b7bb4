pub mod Accounts
pub mod Adding
pub mod Differences
pub mod Groups
pub mod Lookups
pub mod OwnKeys
pub mod Ranges
pub mod Runs
