pub mod Headline
pub mod Amid
pub mod Stopped
pub mod Requests
