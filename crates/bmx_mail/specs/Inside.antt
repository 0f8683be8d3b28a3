-- For proofs and private functions alone.
pub mod Posts
pub mod Anchors
