pub mod File
pub mod Fields
