-- What only proofs and the contracts of private functions name.
pub mod Distinct
pub mod Parsing
pub mod Reader
pub mod Verdicts
