pub mod Files
pub mod Pins
pub mod Described
pub mod BlockReading
pub mod LogReading
pub mod Loose
