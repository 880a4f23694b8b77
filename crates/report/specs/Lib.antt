pub mod LastLines
pub mod Laws
pub mod Lines
pub mod Passing
pub mod Verdicts
pub mod Witness
