pub mod Found
pub mod WrongValues
pub mod InTables
pub mod Claimed
pub mod Twice
pub mod Truths
