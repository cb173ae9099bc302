pub mod AnyOf
pub mod Frauds
pub mod LeafRead
pub mod Limits
