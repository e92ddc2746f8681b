mod Accesses
mod Filling
mod Joined
mod Numbers
mod OneWord
pub mod Overwriting
mod Paged
pub mod Storing
