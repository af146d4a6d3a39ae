mod Moments
mod Counts
mod Groups
mod Orders
mod Zips
mod Whole
mod Rates
