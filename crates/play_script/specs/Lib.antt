pub mod Words
pub mod Lines
pub mod Texts
pub mod Transcript
pub mod Examples
pub mod Claims
pub mod Playing
pub mod Reading
