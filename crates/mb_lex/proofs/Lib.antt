pub mod Adding
pub mod Covering
pub mod Munches
pub mod Numerals
pub mod Starts
pub mod Texts
