pub mod Issued
pub mod Records
