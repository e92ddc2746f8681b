pub mod Holding
pub mod Piling
pub mod Spelled
