pub mod Calls
pub mod Opened
pub mod Stages
