pub mod Brackets
pub mod Square
pub mod Waves
pub mod Terms
pub mod Pairs
pub mod Means
pub mod Loads
