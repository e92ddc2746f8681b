pub mod Breaks
pub mod Prints
pub mod Scenes
pub mod Scripts
