pub mod Fields
pub mod Spans
pub mod Runs
pub mod Answers
