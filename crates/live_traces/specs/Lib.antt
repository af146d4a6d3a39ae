pub mod Rows
pub mod ByTrace
pub mod Parts
pub mod Order
pub mod Whole
pub mod Going
