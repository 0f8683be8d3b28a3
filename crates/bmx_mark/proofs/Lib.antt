pub mod Targets
pub mod Named
pub mod Listed
pub mod Kept
pub mod Scanning
pub mod Reaching
