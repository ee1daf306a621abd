pub mod Bitstream
pub mod Loss
pub mod Statements
pub mod Passes
