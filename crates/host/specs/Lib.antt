pub mod Numbers
pub mod Instructions
pub mod Steps
pub mod Hosts
pub mod Places
