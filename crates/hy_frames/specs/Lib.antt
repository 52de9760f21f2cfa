pub mod Activations
pub mod Slots
