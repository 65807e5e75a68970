pub mod Lines
pub mod Answer
pub mod Reading
pub mod own
