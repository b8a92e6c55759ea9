mod Loops
pub mod Fit
mod Sixteen
mod ByTable
mod Written
pub mod Meanings
pub mod RoundTrip
