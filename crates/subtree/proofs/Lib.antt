pub mod AsMany
pub mod Found
pub mod Rows
pub mod Upstream
