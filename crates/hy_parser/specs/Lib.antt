pub mod Headings
pub mod ReadsDeclarations
pub mod Separated
