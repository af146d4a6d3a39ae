pub mod OneHistory
pub mod StayAlike
