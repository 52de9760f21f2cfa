pub mod Firsts
pub mod Names
pub mod Numerals
pub mod OneFirst
pub mod Remainders
pub mod Trimming
pub mod Walks
