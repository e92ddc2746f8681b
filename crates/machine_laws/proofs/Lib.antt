pub mod Silence
pub mod Loudness
pub mod Stamping
pub mod Going
mod Waiting
mod Lengths
pub mod Holding
