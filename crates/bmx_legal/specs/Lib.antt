pub mod Growing
pub mod Inside
pub mod Laws
pub mod Cases
