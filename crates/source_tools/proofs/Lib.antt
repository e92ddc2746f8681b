pub mod AsmComplete
pub mod Counts
pub mod DisComplete
pub mod Lines
pub mod OneFault
pub mod Sames
pub mod Sizes
pub mod Told
