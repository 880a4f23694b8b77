pub mod Codes
pub mod Reading
pub mod Readable
pub mod Judging
pub mod Opening
pub mod Coding
pub mod Parts
