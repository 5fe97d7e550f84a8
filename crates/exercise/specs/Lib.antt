pub mod Requests
pub mod Criteria
