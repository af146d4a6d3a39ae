pub mod Flushes
pub mod OpenCores
mod Looks
