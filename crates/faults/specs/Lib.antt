pub mod Offending
pub mod own
