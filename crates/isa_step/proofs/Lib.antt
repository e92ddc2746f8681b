pub mod NeverWait
mod Fitting
mod Actions
pub mod Telling
pub mod RestLaws
mod Taking
