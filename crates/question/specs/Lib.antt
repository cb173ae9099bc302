pub mod Asked
pub mod Question
