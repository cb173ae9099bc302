pub mod Bytes
pub mod Each
pub mod Normal
pub mod Normalize
pub mod Private
pub mod Wildcard
