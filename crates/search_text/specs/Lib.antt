pub mod Results
pub mod Fields
pub mod Series
