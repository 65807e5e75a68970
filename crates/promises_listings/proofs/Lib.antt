pub mod Listings
pub mod ListsNeeded
