pub mod ReadsStatements
pub mod StatementWords
