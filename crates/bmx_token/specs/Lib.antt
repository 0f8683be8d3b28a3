pub mod Nodes
pub mod Tokens
pub mod Transitions
pub mod Laws
pub mod Examples
pub mod Services
