pub mod Kinds
pub mod Cells
pub mod Legs
pub mod Criteria
pub mod Rows
pub mod Places
