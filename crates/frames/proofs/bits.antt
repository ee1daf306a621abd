pub mod Settled
pub mod Heads
