pub mod Sequences
pub mod Inside
