pub mod Files
pub mod Memory
pub mod BlockReadings
pub mod Answers
pub mod Checks
pub mod PageReads
pub mod Lookups
pub mod Sketched
