pub mod Accesses
pub mod Bodies
pub mod Conventions
pub mod Paths
pub mod Yielding
pub mod Yields
