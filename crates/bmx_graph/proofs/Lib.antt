pub mod States
pub mod Excluded
pub mod Births
pub mod Finding
pub mod Reaching
pub mod Values
mod Unreached
