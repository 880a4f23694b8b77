pub mod Rows
pub mod Kinds
pub mod Lines
pub mod Past
pub mod Always
