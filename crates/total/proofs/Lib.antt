pub mod Wraps
pub mod Totals
pub mod Rows
pub mod Rounds
pub mod Sums
