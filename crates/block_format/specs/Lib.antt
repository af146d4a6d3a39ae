pub mod Headers
pub mod HeaderReadings
pub mod Blocks
