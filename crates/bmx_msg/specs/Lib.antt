pub mod Letters
pub mod Examples
