pub mod Slots
pub mod Valid
