pub mod Multiplex
pub mod Calls
pub mod Laying
pub mod Passes
pub mod Reach
