pub mod Loops
pub mod Flat
pub mod Places
pub mod Ending
pub mod Searches
pub mod Verdicts
pub mod Ranges
