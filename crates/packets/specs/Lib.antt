pub mod Packet
pub mod Damage
pub mod Header
pub mod Unwrap
pub mod Passes
