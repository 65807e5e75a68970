pub mod UsedRows
