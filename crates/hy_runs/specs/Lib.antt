pub mod Lines
pub mod Runs
pub mod Taking
pub mod Progress
