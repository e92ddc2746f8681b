pub mod Table
pub mod Past
pub mod Near
pub mod Passing
pub mod DueTick
pub mod Early
pub mod Laws
