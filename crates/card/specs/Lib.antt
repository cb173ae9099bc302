pub mod Content
pub mod Card
pub mod Parts
