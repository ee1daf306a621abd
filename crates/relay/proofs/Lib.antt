pub mod Entries
pub mod Chains
pub mod Tables
pub mod Ways
pub mod Headers
pub mod Relayed
pub mod Determined
