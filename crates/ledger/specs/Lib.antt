pub mod Replies
pub mod Tables
pub mod Lookups
pub mod Sound
