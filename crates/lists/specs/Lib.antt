pub mod Lists
pub mod Runs
