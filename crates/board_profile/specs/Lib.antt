pub mod Lines
pub mod Profiles
