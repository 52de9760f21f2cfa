pub mod Marks
pub mod Wanted
pub mod Infixes
pub mod OpenChains
pub mod Reads
pub mod ReadsTypes
