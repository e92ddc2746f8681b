pub mod Breaking
pub mod Cycling
pub mod KindLines
pub mod Ranges
pub mod Scripting
pub mod Young
