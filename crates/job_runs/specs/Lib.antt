pub mod Parts
pub mod Terms
pub mod Events
pub mod Readings
pub mod Refused
pub mod Listing
pub mod Printed
