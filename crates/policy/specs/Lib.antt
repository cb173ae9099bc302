pub mod Policy
pub mod Sound
pub mod Judging
pub mod Qualifies
pub mod Standing
pub mod Filling
