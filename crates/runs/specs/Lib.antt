pub mod Checks
pub mod State
pub mod Log
pub mod Runs
