pub mod Threads
pub mod Outputs
pub mod Texts
pub mod Counts
pub mod Report
pub mod Tally
