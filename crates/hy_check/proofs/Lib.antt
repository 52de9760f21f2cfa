pub mod Knowing
pub mod Lists
pub mod NotedTypes
pub mod PartValues
pub mod Spans
