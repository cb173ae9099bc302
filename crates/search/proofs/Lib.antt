pub mod Asked
pub mod FraudCard
pub mod Frauds
pub mod Held
pub mod One
pub mod Valid
