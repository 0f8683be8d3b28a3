-- Runs of programs: which histories follow the programs of all nodes, what they print, and the order in
-- which one thread takes the turns.
pub mod Programs
pub mod Turns
pub mod Cases
