pub mod Forward
pub mod Hosts
pub mod Pinned
pub mod Values
