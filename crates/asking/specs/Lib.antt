pub mod Queries
pub mod Memory
pub mod Places
pub mod Explaining
