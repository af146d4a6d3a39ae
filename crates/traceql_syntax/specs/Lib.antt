pub mod Trees
pub mod Tables
pub mod Grammar
pub mod Refusals
pub mod Depth
