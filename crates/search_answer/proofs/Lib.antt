pub mod Each
pub mod Firsts
pub mod Fronts
pub mod InRangeLaws
pub mod OneList
pub mod PartLaws
pub mod RankLaws
pub mod Sorting
mod Shown
mod Starts
pub mod BestLaws
pub mod PickedLaws
pub mod CutLaws
