pub mod Atoms
pub mod Connectives
pub mod Quantified
pub mod SameCodes
pub mod Trees
pub mod Updates
