pub mod State
pub mod RestTests
