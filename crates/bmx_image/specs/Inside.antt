-- For private functions and proofs alone.
pub mod Reading
pub mod Mentions
