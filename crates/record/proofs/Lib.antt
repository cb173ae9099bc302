pub mod Onward
pub mod Forward
pub mod Frauds
pub mod Meaning
pub mod Pinned
pub mod Values
