pub mod Blocks
pub mod Fitting
pub mod Making
pub mod Sizes
pub mod Lines
pub mod PastAges
pub mod Negating
pub mod Unseen
