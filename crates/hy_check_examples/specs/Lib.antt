pub mod Programs
pub mod Reader
pub mod Rows
