pub mod Answering
pub mod Listing
pub mod Ordering
