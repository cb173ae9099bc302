pub mod Listing
pub mod Paths
pub mod Waiting
pub mod Slots
pub mod Walk
