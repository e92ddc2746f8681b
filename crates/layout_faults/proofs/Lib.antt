pub mod NextSolid
pub mod Noting
pub mod Spanning
