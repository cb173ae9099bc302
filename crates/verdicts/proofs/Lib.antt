pub mod Forward
pub mod Pass
pub mod Pinned
pub mod Product
pub mod Rows
pub mod Values
