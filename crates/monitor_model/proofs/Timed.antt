pub mod Drawn
pub mod Made
pub mod Nexts
pub mod Remembered
pub mod Rows
pub mod Spelled
