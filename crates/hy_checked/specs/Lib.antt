pub mod Endings
pub mod Simulates
pub mod Instructions
pub mod Executes
pub mod Progress
pub mod Starting
pub mod Suspended
