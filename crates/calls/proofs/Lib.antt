mod NoRefusal
mod CallSteps
-- what callers that work in place use
pub mod Performing
pub mod Leaving
