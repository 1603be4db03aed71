pub mod Spots
pub mod Alike
pub mod Scenes
pub mod Following
pub mod Traces
pub mod Sound
