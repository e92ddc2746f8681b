pub mod Ring
pub mod Programs
pub mod Summary
pub mod Runs
pub mod Demo
