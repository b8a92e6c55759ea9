pub mod Moves
pub mod Build
pub mod Checks
