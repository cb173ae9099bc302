pub mod Text
pub mod Lines
pub mod Replying
