pub mod Neighbours
pub mod Rises
pub mod Weights
