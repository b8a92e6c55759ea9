pub mod Lines
pub mod Output
