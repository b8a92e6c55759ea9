pub mod Answers
pub mod Requests
pub mod World
pub mod CallContracts
pub mod Functions
pub mod OpeningCost
pub mod Numbers
