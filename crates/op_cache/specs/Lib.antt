pub mod Keys
pub mod Memo
pub mod Chains
pub mod Kept
