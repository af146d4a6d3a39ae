pub mod Scripts
pub mod Told
pub mod Served
pub mod Stages
pub mod Numbers
