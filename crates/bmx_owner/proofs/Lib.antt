pub mod Keys
pub mod Parts
pub mod Counts
pub mod Places
pub mod Found
pub mod Named
