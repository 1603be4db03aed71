pub mod Fetching
pub mod Drawing
pub mod Taking
pub mod Pieces
pub mod Showing
