pub mod Range
pub mod Stride
pub mod Upstream
