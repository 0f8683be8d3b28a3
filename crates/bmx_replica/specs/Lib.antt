pub mod Slots
pub mod Chains
pub mod Layouts
pub mod Replicas
pub mod Letters
pub mod Lending
pub mod Inside
