pub mod Answers
pub mod Corners
pub mod Locating
pub mod Coefficient
pub mod Force
pub mod own
