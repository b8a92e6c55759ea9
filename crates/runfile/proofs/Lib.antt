pub mod Steps
pub mod Along
pub mod Turns
pub mod Sessions
pub mod Outcome
pub mod Example
pub mod Uses
