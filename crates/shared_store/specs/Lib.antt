pub mod Seen
pub mod Apart
pub mod Rule
pub mod Idle
pub mod Seats
pub mod Told
pub mod Over
