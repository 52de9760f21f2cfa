pub mod Accesses
pub mod Forest
pub mod Clear
