pub mod Finding
pub mod Numerals
pub mod Reading
pub mod Splits
pub mod Words
