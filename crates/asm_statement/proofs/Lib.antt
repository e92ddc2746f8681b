pub mod Commas
pub mod Fitting
pub mod Loops
pub mod Telling
pub mod Writing
