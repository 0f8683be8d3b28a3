pub mod Integers
pub mod Openings
pub mod Updates
pub mod Words
