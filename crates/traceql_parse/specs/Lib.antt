pub mod Reading
pub mod Descent
pub mod Metrics
pub mod Code
pub mod Outcome
