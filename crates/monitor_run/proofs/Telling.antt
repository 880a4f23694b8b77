pub mod Fronts
pub mod LogUse
pub mod OneUse
pub mod Owing
