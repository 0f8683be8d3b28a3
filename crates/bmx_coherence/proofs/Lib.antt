pub mod Parts
pub mod Answers
pub mod Events
pub mod Following
pub mod Stated
pub mod CaseFacts
