pub mod Log
pub mod Lines
pub mod Files
