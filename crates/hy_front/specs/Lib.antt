pub mod Noted
pub mod Phases
pub mod Rows
pub mod Unbuilt
