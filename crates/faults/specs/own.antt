-- What only the crate's own functions need: the tests by which they find the column that offends.
pub mod Offends
