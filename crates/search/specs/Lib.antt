pub mod Search
pub mod Valid
