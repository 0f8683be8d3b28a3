pub mod Records
pub mod Search
