pub mod Spaces
pub mod Determined
