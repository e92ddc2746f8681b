pub mod Answers
pub mod Complete
pub mod Listing
pub mod Loaded
