pub mod Standing
pub mod Neighbours
