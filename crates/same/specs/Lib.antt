pub mod Same
pub mod Matching
pub mod Answers
pub mod Rows
pub mod Values
pub mod Walks
