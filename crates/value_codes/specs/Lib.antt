pub mod Pairs
pub mod PairList
pub mod Places
