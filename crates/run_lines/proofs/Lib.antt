pub mod Writings
pub mod Decimals
