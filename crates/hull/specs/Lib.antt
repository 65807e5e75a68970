pub mod Six
pub mod own
