pub mod Writes
pub mod Force
pub mod Journal
pub mod Meaning
pub mod Outcomes
