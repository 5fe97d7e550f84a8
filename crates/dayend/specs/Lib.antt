pub mod Cutoff
pub mod Assignment
pub mod Statement
pub mod NextDay
pub mod Laws
