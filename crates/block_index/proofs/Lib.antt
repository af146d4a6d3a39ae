mod Searching
mod EntryLemmas
mod BloomLaws
pub mod PageLaws
mod FoundLaws
mod RowLaws
