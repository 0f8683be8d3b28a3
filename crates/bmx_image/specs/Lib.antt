pub mod Spelling
pub mod Images
pub mod Faults
pub mod Laws
pub mod Facts
pub mod Cases
pub mod Gathering
pub mod Inside
