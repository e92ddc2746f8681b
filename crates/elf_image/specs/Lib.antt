pub mod Elf
pub mod Fields
pub mod Ranges
pub mod Symbols
pub mod Tests
pub mod Written
