pub mod OneTree
pub mod Apart
pub mod Same
pub mod Setting
pub mod Joins
pub mod Counting
pub mod Drawn
