pub mod Machine
pub mod Runs
pub mod Stepping
pub mod Opening
pub mod Times
pub mod Profile
pub mod Laws
