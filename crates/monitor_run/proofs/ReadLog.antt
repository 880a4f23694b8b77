pub mod Causes
pub mod Given
pub mod Halts
pub mod Reaching
pub mod Reads
