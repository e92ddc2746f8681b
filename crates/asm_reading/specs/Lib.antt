pub mod Lines
pub mod Marks
pub mod Reading
pub mod Tables
pub mod FirstRound
pub mod Laws
