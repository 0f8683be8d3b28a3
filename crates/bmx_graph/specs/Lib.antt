pub mod State
pub mod Step
pub mod Reached
pub mod Cases
pub mod Graphs
pub mod Inside
