pub mod Finding
pub mod Laws
pub mod Least
pub mod Searching
pub mod Turns
