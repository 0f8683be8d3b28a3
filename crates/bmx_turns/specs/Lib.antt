pub mod Stuck
pub mod Laws
pub mod Cases
pub mod Inside
