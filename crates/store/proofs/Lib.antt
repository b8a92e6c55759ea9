pub mod Ends
pub mod Fill
