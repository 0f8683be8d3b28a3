-- For proofs alone: what the model of one object sees of a store.
pub mod Seen
