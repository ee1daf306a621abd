pub mod Field
pub mod Code
pub mod Values
pub mod Header
pub mod Changes
pub mod Statements
pub mod Vectors
