pub mod Breaks
pub mod Encodings
pub mod Sound
pub mod Decodings
pub mod Laws
pub mod Keys
pub mod Written
