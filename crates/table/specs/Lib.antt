pub mod Cells
pub mod Placing
pub mod Pairs
pub mod Closing
pub mod Entries
pub mod View
