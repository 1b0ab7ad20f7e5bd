pub mod Little
pub mod Planning
pub mod Reading
pub mod Tiles
pub mod Heading
