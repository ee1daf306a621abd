pub mod Held
pub mod Input
pub mod Lines
