mod Images
mod Printed
mod Profiles
mod Limits
mod Boards
mod Exact
mod FairRuns
mod Demos
mod Debugging
mod RawSays
pub mod ToolSays
mod Probes
