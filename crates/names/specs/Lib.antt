pub mod Names
pub mod Answers
