pub mod NodeLists
pub mod Acks
pub mod Order
