pub mod Closing
pub mod Entering
pub mod Joining
pub mod Leaving
pub mod Taking
pub mod Ways
