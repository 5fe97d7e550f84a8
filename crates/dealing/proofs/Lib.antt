pub mod OpenLaws
pub mod TradeLaws
