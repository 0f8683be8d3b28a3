pub mod Scripts
pub mod Texts
pub mod Promises
pub mod Runs
pub mod Statuses
pub mod Inside
