pub mod Buffers
pub mod LineLemmas
pub mod ReaderLemmas
