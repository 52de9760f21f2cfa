pub mod Children
pub mod Trees
pub mod Walking
pub mod Ancestors
