pub mod Outcomes
pub mod LineByLine
