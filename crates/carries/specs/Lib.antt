pub mod Carries
pub mod Careful
pub mod Demand2List
pub mod Judged
pub mod Weaker
