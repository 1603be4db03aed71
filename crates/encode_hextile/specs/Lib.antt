pub mod Tiles
pub mod Hextile
pub mod Pieces
pub mod Palettes
pub mod Reading
pub mod Claims
pub mod Examples
