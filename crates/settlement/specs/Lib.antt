pub mod Account
pub mod Assignment
pub mod Lines
pub mod Laws
