pub mod CommandLine
pub mod Watching
pub mod Screens
pub mod Application
pub mod Endings
pub mod Runs
