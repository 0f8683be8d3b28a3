-- For private functions and proofs alone.
pub mod Search
pub mod Sides
