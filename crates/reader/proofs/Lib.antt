pub mod Placings
pub mod Openings
pub mod Kept
pub mod Valid
pub mod TextLoop
pub mod Answers
