-- What only the crate's own functions need: the tests of a row in the order in which the code makes them, and where a line's fields stand.
pub mod Found
pub mod Values
pub mod Rows
