pub mod Rules
pub mod Limits
pub mod Records
