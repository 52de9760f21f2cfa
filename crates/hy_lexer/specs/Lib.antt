pub mod Pieces
pub mod Scans
pub mod Spans
pub mod Steps
pub mod Tokens
pub mod Words
