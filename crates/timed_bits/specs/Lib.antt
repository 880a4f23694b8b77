pub mod Ages
pub mod Changes
pub mod Entries
pub mod Laws
pub mod Changing
pub mod Walks
