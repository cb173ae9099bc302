pub mod Limits
pub mod Lowest
