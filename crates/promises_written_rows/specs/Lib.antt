pub mod WrittenRows
