pub mod Nodes
pub mod Relations
pub mod Marking
pub mod Tables
pub mod Members
pub mod Reach
