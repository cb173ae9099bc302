pub mod Stacked
pub mod Looks
pub mod Stands
pub mod Begins
