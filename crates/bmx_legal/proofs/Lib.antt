pub mod Spots
pub mod Growing
pub mod Flight
pub mod Queues
pub mod Follows
pub mod Applied
