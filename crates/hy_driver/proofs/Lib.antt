pub mod Causes
pub mod Clauses
mod Compiles
pub mod Ends
pub mod Executing
mod Frames
mod Extents
mod Found
mod Free
mod Keys
pub mod Keeping
mod Known
mod Grammar
mod Leads
mod Named
pub mod Promised
mod Extends
mod Reports
pub mod Returning
pub mod Saying
mod Statuses
pub mod Writing
pub mod ThisRun
pub mod Ways
mod Worded
