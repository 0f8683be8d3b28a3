-- For proofs and private functions alone.
pub mod Screens
pub mod Births
pub mod Others
pub mod Keeping
pub mod Reacting
pub mod Graphs
pub mod Hearing
pub mod Posting
pub mod Taking
pub mod Viewing
