mod Stores
pub mod Lateness
pub mod Reading
