pub mod Refusals
pub mod Acts
pub mod Perform
