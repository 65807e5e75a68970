pub mod Starred
pub mod SumWorked
pub mod DifferenceWorked
