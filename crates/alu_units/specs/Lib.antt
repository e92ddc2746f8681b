pub mod Integers
pub mod Units
pub mod Division
