pub mod Lookups
pub mod Lists
pub mod Kept
