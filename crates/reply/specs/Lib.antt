pub mod Settles
pub mod Slots
pub mod Room
pub mod Answer
pub mod Laid
pub mod Numbers
pub mod Records
