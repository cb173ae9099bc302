pub mod Certificate
pub mod Record
pub mod Fresh
pub mod Parts
