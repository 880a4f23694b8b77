pub mod Beginning
pub mod Opening
pub mod Rows
pub mod Stepping
