pub mod Serving
pub mod Rows
pub mod Stepping
