pub mod Rre
pub mod Examples
pub mod Claims
