pub mod Layout
pub mod Meaning
pub mod Visits
pub mod Entries
pub mod Table
pub mod Rows
pub mod Lookup
