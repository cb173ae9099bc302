pub mod TaskAsked
pub mod One
pub mod Numbers
