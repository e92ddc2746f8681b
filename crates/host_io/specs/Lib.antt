pub mod Digits
pub mod Names
pub mod Outside
pub mod Streams
pub mod MemFiles
pub mod Sure
pub mod Planned
pub mod Real
