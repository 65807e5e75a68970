pub mod Places
pub mod Coefficients
pub mod Queries
pub mod SeaLines
pub mod Alike
