pub mod Valid
pub mod Model
