pub mod Frame
pub mod Picture
pub mod Blocks
pub mod Rows
pub mod Moves
pub mod BlockLemmas
pub mod PictureLemmas
