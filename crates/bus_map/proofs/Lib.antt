pub mod Building
pub mod Finding
pub mod Ranges
pub mod Tables
