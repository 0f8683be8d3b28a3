-- What serves proofs and private functions alone.
pub mod Slots
pub mod Layouts
pub mod Replicas
pub mod Letters
