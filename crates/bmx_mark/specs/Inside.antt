-- For private functions and proofs alone.
pub mod Marks
pub mod Targets
