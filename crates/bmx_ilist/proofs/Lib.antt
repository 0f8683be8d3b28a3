pub mod Keys
pub mod Links
pub mod Live
pub mod Steps
pub mod Calls
