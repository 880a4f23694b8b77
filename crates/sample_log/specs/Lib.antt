pub mod Sample
pub mod Left
