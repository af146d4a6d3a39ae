pub mod BlockLaws
mod Prefixes
pub mod ReadLaws
mod BuildLaws
pub mod WriteLaws
mod RoundLaws
mod ByTrace
mod FormLaws
mod JoinLaws
