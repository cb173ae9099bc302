pub mod Ends
pub mod Judging
pub mod Laid
pub mod Least
pub mod Levels
pub mod Paths
pub mod Stack
