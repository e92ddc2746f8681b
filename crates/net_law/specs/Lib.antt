pub mod Rounds
pub mod Network
pub mod Boards
pub mod Law
