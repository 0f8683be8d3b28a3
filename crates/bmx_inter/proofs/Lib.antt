pub mod Keys
pub mod Places
pub mod Found
pub mod Merged
pub mod Changes
pub mod Ranks
pub mod Sides
pub mod Tests
