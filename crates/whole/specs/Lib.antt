pub mod Nearest
pub mod Complex
pub mod Fraction
pub mod Sum
pub mod Same
pub mod Any
