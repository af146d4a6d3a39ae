pub mod Turn
pub mod Drilling
pub mod Real
pub mod Arguments
pub mod Ingesting
pub mod Dealing
pub mod Serving
