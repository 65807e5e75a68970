pub mod Line
pub mod Listing
pub mod Refusal
