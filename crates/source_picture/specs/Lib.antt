pub mod Painting
pub mod Bands
pub mod Texts
pub mod Asking
pub mod Mirroring
