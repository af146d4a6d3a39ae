pub mod Batches
pub mod Walks
