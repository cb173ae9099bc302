pub mod Listing
pub mod Places
pub mod Same
pub mod Taking
pub mod Upper
pub mod Words
