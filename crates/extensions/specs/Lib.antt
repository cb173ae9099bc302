pub mod Flags
pub mod Extensions
