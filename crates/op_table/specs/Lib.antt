pub mod Forms
pub mod Kinds
pub mod Mnemonics
pub mod Table
