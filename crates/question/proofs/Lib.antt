pub mod Alike
pub mod Asked
pub mod Meaning
pub mod Pinned
