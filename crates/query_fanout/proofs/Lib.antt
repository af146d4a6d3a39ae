mod CallLaws
pub mod Later
mod PinnedLaws
mod BlockLaws
mod PartLaws
mod TurnLaws
mod FewLaws
mod TakenLaws
mod TakeLaws
mod QueryLaws
mod PicksExist
mod SiftedLaws
mod ApartLaws
mod TookLaws
mod WaitLaws
mod LeastLaws
mod RoundLaws
mod StageLaws
mod PlaceLaws
mod GoLaws
mod EndLaws
mod AfterLaws
mod ReachLaws
mod SearchLaws
mod OwnLaws
pub mod TakingLaws
pub mod WholeLaws
