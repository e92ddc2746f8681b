pub mod Words
pub mod Splits
