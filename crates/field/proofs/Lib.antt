pub mod Runs
pub mod Loop
pub mod Parts
pub mod Examples
pub mod Scales
pub mod Ticks
pub mod Signs
