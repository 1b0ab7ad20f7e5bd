pub mod Tile
pub mod Cutting
