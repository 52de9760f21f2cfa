pub mod Filling
pub mod Readings
pub mod Splitting
pub mod Tellings
pub mod Coming
