pub mod AuthKeyId
pub mod Given
pub mod Address
