pub mod Settings
pub mod Steps
pub mod Stores
