pub mod NameLemmas
pub mod DrillLemmas
