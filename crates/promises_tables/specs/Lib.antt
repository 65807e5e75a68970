pub mod Rules
pub mod Holds
pub mod Closing
pub mod Lookup
pub mod Reordered
