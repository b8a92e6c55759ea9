pub mod Meaning
pub mod Table
pub mod Reading
pub mod Writing
