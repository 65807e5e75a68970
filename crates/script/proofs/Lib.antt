pub mod Digits
pub mod Ending
pub mod Counting
pub mod Worked
