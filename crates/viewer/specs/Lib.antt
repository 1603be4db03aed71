pub mod Viewer
pub mod Hearing
pub mod Sending
pub mod Given
pub mod ViewerStates
pub mod Told
