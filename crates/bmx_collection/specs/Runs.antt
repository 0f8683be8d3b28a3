-- Runs of programs with collectors: what a collector's commands come to, how often tables are taken, which histories
-- follow the programs of all nodes and what they print, and the turns of one thread.
pub mod Programs
pub mod Turns
pub mod Cases
