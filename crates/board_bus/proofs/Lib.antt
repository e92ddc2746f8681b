pub mod Asking
pub mod Building
pub mod Refusing
pub mod AtRest
