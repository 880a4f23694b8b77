pub mod Unfold
pub mod Table
pub mod Hash
pub mod Chains
pub mod Arrays
pub mod Tells
pub mod Marks
pub mod Collects
