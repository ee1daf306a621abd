pub mod Texts
pub mod Moved
pub mod Steps
pub mod Records
