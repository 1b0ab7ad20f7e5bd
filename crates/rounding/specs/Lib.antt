pub mod Word
pub mod Nearest
