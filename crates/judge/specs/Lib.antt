pub mod Judge
pub mod Calls
pub mod Tapes
pub mod Trials
pub mod Reach
pub mod Statements
