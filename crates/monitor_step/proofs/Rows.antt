pub mod Counted
pub mod Placed
pub mod Made
pub mod Kinds
pub mod Costs
pub mod Kept
