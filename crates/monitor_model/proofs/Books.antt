pub mod Pairing
pub mod Reuse
pub mod Sound
pub mod Room
pub mod Exact
pub mod Order
pub mod Counted
pub mod Listed
