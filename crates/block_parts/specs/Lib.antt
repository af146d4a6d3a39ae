pub mod PartEncodings
pub mod PartReadings
pub mod PartsKept
pub mod TextKeys
