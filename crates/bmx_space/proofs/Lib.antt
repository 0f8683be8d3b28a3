pub mod Sweeping
pub mod Handing
