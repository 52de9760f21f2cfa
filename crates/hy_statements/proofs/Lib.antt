pub mod StatementNodes
pub mod StatementWalks
pub mod StatementSteps
pub mod BlockSteps
