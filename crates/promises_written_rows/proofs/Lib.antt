pub mod Slots
pub mod WrittenRows
