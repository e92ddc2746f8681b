pub mod Bytes
pub mod Lexemes
pub mod Literals
pub mod Lines
pub mod Slices
