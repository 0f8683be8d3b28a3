pub mod Laws
pub mod Aims
