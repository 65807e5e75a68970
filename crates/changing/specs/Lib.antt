pub mod Calls
pub mod Memory
pub mod Forging
pub mod Keeping
