pub mod Widths
pub mod Puts
pub mod Pens
pub mod Apart
pub mod Back
pub mod RowsBack
pub mod Lengths
pub mod Examples
