pub mod Names
pub mod Operands
pub mod Shapes
pub mod Spelling
