pub mod Writing
pub mod Looking
pub mod TakeBack
pub mod Arrays
