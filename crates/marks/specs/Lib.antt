pub mod Marks
pub mod Later
pub mod Marked
pub mod Began
pub mod Calls
