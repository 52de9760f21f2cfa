pub mod Walks
pub mod Widened
pub mod Alone
pub mod WantedKinds
pub mod TypeWalks
pub mod Chained
