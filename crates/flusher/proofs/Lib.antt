pub mod TaskLaws
mod RoundLaws
