pub mod Any
pub mod States
