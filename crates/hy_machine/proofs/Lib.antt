pub mod Cells
pub mod Ends
pub mod Follows
pub mod Simulates
pub mod Walking
pub mod Whole
pub mod Windows
pub mod Writes
