pub mod FullNames
pub mod Shown
pub mod Noted
pub mod FoundNames
