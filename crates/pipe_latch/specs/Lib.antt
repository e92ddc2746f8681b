pub mod Latches
pub mod Clocks
pub mod Stages
pub mod Staged
pub mod Cores
pub mod Props
