pub mod Lateness
pub mod Reading
