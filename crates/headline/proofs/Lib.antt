mod Histories
mod Telling
mod Counts
mod Stopped
mod Written
mod Kept
mod Alike
