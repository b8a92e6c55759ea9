pub mod LookUps
pub mod ScanTurns
pub mod PageTurns
pub mod Laying
pub mod Searches
pub mod FormatPages
pub mod BackwardSteps
pub mod Settling
