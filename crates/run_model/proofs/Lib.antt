pub mod AcceptedPlans
pub mod OneWalk
pub mod Growing
pub mod Trace
pub mod OneStop
pub mod Assembled
