-- For proofs alone: where letters stand in a history.
pub mod Spots
