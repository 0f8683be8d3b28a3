pub mod Sending
pub mod Inside
