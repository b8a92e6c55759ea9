pub mod Runs
pub mod Play
