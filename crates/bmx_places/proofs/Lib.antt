pub mod Blocks
pub mod Outcomes
pub mod Next
pub mod Kept
pub mod Opened
pub mod Always
pub mod Applied
