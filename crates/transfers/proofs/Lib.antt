pub mod TransferLaws
pub mod PositionLaws
