-- The modules marked `pub` have the laws that crates above cite; the others serve the proofs here.
pub mod Sums
mod Bytes
mod Turns
mod AllPass
mod Built
mod Overwrites
pub mod Parts
pub mod Lengths
pub mod PageMoves
pub mod AnyPage
pub mod PageChecks
pub mod ChartMoves
