pub mod Machine
pub mod Tables
pub mod Laws
pub mod Cases
