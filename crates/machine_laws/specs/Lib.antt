pub mod Silence
pub mod Stamps
pub mod Going
pub mod Holding
