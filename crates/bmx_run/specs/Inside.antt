-- For proofs and private functions alone: no contract that a user calls by reaches it.
pub mod Seats
pub mod Steps
pub mod Noting
pub mod Running
pub mod Picking
pub mod Posting
pub mod Phases
