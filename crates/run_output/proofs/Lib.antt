pub mod Written
pub mod Threading
pub mod Joined
pub mod InOrder
pub mod Counting
pub mod Printing
pub mod Tallying
