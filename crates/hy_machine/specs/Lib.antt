pub mod Built
pub mod Endings
pub mod Frames
pub mod Machine
pub mod Walks
