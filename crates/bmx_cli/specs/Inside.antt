-- What serves proofs and private functions alone: no contract that a user calls by reaches it.
pub mod Writing
