mod FirstRun
pub mod RunLaws
