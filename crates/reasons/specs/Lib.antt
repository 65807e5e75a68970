pub mod Told
pub mod Reasons
