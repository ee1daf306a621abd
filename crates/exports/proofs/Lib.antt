mod Wraps
mod Headers
mod Relays
pub mod Theorems
pub mod Readers
pub mod Tables
pub mod Zeros
