pub mod CellLaws
pub mod RowLaws
pub mod PlaceLaws
