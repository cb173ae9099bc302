pub mod Decimals
pub mod Growing
pub mod Places
pub mod Replies
pub mod Told
pub mod Roomy
