pub mod FlightLemmas
pub mod WordLemmas
pub mod ClockLemmas
pub mod StagedTurns
pub mod Turns
pub mod Depths
pub mod Leaving
pub mod AloneTurns
