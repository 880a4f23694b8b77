pub mod Codes
pub mod Places
pub mod Logs
pub mod Answered
