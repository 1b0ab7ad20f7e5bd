pub mod Reach
pub mod Checks
