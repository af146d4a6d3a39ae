pub mod Signs
pub mod Kinds
pub mod Text
pub mod Printer
pub mod Depth
