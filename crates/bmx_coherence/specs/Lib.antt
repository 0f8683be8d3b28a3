pub mod Graphs
pub mod Waits
pub mod Copies
pub mod Stuck
pub mod Laws
pub mod Cases
pub mod Wrong
pub mod Telling
