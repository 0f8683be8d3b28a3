pub mod Ledger
pub mod Laws
pub mod Cases
