-- What serves proofs alone: no contract that a user calls by reaches it.
pub mod Growing
pub mod Walks
