pub mod Apart
pub mod Told
pub mod Tells
pub mod Given
pub mod Verdict
