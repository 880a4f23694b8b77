pub mod OneWitness
pub mod Passages
pub mod Quoting
pub mod Showing
pub mod Staying
