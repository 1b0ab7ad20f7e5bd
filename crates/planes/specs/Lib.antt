pub mod Columns
pub mod Plane
pub mod Lawful
