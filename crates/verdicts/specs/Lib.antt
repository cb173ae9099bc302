pub mod Verdicts
pub mod Grid
pub mod Parts
