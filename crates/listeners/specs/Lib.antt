pub mod Meaning
pub mod Each
pub mod Lines
pub mod Laws
