pub mod Fits
pub mod Fronts
pub mod Idles
pub mod Wraps
pub mod Rounds
pub mod Determined
pub mod Passes
