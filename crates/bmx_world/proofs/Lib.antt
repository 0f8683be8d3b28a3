pub mod Decimals
pub mod Promised
pub mod Lined
pub mod Placed
pub mod Opened
