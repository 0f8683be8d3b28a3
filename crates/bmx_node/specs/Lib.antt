pub mod Seen
pub mod Stamped
pub mod Moved
pub mod Openings
pub mod Inside
