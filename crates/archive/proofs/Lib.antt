pub mod Once
pub mod Telling
pub mod TapeLeft
pub mod Saying
pub mod Keeping
pub mod Archiving
pub mod Archived
pub mod Worked
