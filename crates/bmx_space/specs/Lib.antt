pub mod Spaces
pub mod Sweeps
pub mod Inside
