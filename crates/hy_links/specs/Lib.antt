pub mod Chains
pub mod Keyed
pub mod Linked
