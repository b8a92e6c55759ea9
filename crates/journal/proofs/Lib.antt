pub mod Meaning
pub mod Room
pub mod RowsInBytes
pub mod RunsOfRows
pub mod Shifts
pub mod Turns
