pub mod Pieces
pub mod Outputs
pub mod Inputs
pub mod Streams
pub mod Writers
