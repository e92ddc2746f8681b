pub mod Names
pub mod Loading
