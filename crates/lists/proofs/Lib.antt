pub mod Forward
pub mod Meaning
pub mod Values
