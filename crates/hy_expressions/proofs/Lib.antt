pub mod PartWalks
pub mod StepWalks
pub mod Stepped
pub mod Prefixed
pub mod OperandWalks
pub mod ChainWalks
