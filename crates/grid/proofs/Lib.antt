pub mod Places
pub mod Checking
pub mod Members
pub mod Bounds
