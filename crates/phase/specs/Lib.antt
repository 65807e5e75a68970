pub mod Turn
pub mod Rule
pub mod Seconds
pub mod own
