pub mod Task
pub mod Placed
