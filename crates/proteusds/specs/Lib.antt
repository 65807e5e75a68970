pub mod Words
pub mod Six
