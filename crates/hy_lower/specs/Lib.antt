pub mod Frames
pub mod Arrays
pub mod Places
pub mod Segments
pub mod Code
pub mod Denotes
pub mod Examples
