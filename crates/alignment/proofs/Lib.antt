pub mod Surveying
pub mod Values
pub mod Rows
