pub mod Listings
pub mod Trades
