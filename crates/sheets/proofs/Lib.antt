pub mod Summing
pub mod Codes
