pub mod Judges
pub mod Rows
pub mod Spending
pub mod Writing
