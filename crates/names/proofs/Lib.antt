pub mod Alike
pub mod Attributes
pub mod Forward
pub mod Pinned
