pub mod Coding
pub mod Interchange
pub mod Fixed
pub mod Agreement
pub mod Counting
pub mod Lawful
