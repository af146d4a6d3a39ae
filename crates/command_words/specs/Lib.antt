pub mod Commands
pub mod Numbers
pub mod Spelling
pub mod Table
