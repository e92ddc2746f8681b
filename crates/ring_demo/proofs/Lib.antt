pub mod Lists
pub mod Images
pub mod Rings
pub mod Tallies
pub mod Shown
