-- For private functions and proofs alone.
pub mod Sweeping
