pub mod Front
pub mod Idle
pub mod Wrap
pub mod Passes
