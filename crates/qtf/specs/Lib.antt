pub mod Matrix
pub mod own
