pub mod Log
pub mod Argument
pub mod Opened
pub mod NextRow
