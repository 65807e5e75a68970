pub mod Spacing
pub mod Billionths
