pub mod Meaning
pub mod Pinned
pub mod Values
