pub mod Hash
pub mod Pages
pub mod Index
pub mod Bloom
pub mod Found
