pub mod Lengths
pub mod Standing
pub mod Following
pub mod WordSteps
pub mod WordRuns
