pub mod Agrees
pub mod Fits
pub mod Issuers
pub mod Turns
