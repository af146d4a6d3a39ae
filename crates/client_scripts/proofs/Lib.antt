pub mod ScriptLemmas
pub mod ToldLemmas
pub mod NameLemmas
pub mod RunLemmas
pub mod ServeLemmas
pub mod Crossing
pub mod CoreLemmas
pub mod NumberLemmas
