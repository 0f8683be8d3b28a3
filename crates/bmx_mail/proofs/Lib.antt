pub mod Giving
pub mod Posting
pub mod Bunches
pub mod Anchors
