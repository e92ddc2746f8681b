pub mod Access
pub mod Sizes
pub mod Words
