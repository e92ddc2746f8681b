pub mod Assembly
pub mod WordLines
pub mod Orders
