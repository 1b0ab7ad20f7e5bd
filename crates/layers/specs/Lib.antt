pub mod Layer
pub mod Drain
pub mod Halving
pub mod Odd
pub mod Lawful
