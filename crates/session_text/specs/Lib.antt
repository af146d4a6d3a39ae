pub mod Lines
pub mod Options
pub mod MetricsLines
pub mod Parsed
pub mod Searches
pub mod Requests
pub mod Replies
pub mod Items
