pub mod Register
pub mod Balance
pub mod Law
pub mod Examples
