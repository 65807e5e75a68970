pub mod Test
pub mod Turns
pub mod Quarters
pub mod Folding
pub mod Symmetry
pub mod Bounds
pub mod Steps
pub mod Seconds
