pub mod Form
pub mod Units
pub mod Text
