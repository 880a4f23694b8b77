pub mod Serving
pub mod Giving
pub mod Coded
pub mod Frame
pub mod RowsMade
pub mod Handles
pub mod Stages
pub mod Monitor
