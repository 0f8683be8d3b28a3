-- For private functions and proofs alone.
pub mod Parts
pub mod Walks
