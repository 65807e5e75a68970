-- What only the crate's own functions need.
pub mod Spacing
