pub mod Decimal
pub mod Spaced
pub mod Put
pub mod Pen
pub mod Line
pub mod Parts
pub mod Reading
pub mod Rows
