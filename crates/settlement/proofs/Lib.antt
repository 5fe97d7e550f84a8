pub mod Filling
pub mod Allocated
pub mod AssignmentLaws
pub mod NothingDue
pub mod Written
pub mod LineLaws
pub mod EvenLaws
pub mod SmallLaws
