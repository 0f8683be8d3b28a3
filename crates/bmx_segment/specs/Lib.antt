pub mod Headers
pub mod Blocks
pub mod Stores
pub mod Heaps
pub mod Inside
