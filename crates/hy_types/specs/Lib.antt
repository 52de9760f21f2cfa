pub mod Kept
pub mod Lists
pub mod Matching
pub mod Rows
pub mod Sizes
pub mod Types
pub mod Words
