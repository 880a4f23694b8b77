pub mod Lists
pub mod Places
pub mod Pairs
pub mod Linking
pub mod Following
pub mod Keeping
