pub mod Counting
pub mod Defining
pub mod Following
pub mod LineByLine
pub mod Names
pub mod OneLine
pub mod Speaking
pub mod Ordering
