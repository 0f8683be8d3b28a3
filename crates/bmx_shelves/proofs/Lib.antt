pub mod Parts
pub mod Items
pub mod Steps
pub mod Calls
pub mod Updates
pub mod Counts
pub mod Walks
