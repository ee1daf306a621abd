pub mod Accepted
mod ByOctets
pub mod Editions
pub mod Framed
pub mod Headings
pub mod Heads
pub mod ReadBack
pub mod Rows
pub mod Settled
pub mod Signals
mod Taken
pub mod Theorems
pub mod Wheel
pub mod Worth
pub mod Passes
