mod Firsts
mod Lists
pub mod Phased
mod Walks
mod LexedNames
