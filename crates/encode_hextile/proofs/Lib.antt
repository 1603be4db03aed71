pub mod Palettes
pub mod Lists
pub mod Cuts
pub mod Coding
pub mod Folds
pub mod TileBack
mod ReadBack
pub mod Pieces
