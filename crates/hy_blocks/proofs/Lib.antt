pub mod Filling
pub mod Flags
pub mod Growing
pub mod Listed
pub mod Moving
pub mod Rows
pub mod Sharing
