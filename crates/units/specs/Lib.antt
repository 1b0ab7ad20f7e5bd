pub mod Meaning
pub mod Multiplier
pub mod Lawful
