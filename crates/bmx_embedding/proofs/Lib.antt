pub mod Opened
pub mod Stepped
