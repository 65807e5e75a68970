-- What only the crate's own functions state: a number and a command's numbers, grown by one, the words behind a word, and a table of names as the code has it.
pub mod Growing
pub mod Behind
pub mod Tabled
