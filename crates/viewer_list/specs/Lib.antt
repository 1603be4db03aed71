pub mod Lagging
pub mod Viewers
pub mod SizeLemmas
