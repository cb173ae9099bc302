pub mod Pinned
pub mod Records
pub mod Standing
pub mod Two
