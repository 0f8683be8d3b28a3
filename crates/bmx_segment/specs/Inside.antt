-- What serves proofs and private functions alone.
pub mod Blocks
pub mod Stores
pub mod Numbers
