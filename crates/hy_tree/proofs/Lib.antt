pub mod Counts
pub mod Equations
pub mod Lists
pub mod Nodes
pub mod Numbered
pub mod Preorder
