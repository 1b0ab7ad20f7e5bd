pub mod Holding
pub mod Alike
pub mod Tiles
pub mod Adding
pub mod Feeding
