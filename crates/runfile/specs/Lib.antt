pub mod RunFile
pub mod Steps
pub mod Statements
