pub mod Least
pub mod Local
pub mod Past
pub mod Smaller
pub mod Step
pub mod Turns
