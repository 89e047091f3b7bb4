pub mod Arguments
pub mod Parsed
pub mod Failing
pub mod Lines
