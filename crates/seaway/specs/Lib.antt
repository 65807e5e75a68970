pub mod Sea
