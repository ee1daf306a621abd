pub mod Bounds
pub mod Heard
pub mod RunFiles
pub mod Ends
pub mod Unreached
pub mod Reaches
pub mod Theorems
