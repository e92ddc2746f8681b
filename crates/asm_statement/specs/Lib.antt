pub mod Directives
pub mod Instructions
pub mod Labels
pub mod Operands
pub mod Statements
pub mod Values
