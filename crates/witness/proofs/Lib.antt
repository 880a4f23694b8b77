pub mod BelowChain
pub mod ChainRows
pub mod Choosing
pub mod Descending
pub mod Going
pub mod Order
pub mod Showing
pub mod Splitting
