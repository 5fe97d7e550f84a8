pub mod Stretch
pub mod Assigned
pub mod Allocation
pub mod Replies
pub mod Laws
