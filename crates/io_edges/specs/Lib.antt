pub mod Devices
pub mod Memory
pub mod Lines
pub mod Buffered
pub mod Reader
