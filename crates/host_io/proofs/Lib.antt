pub mod Lookups
pub mod Prefixes
