pub mod Told
pub mod Candidates
pub mod Search
pub mod Swept
pub mod Laws
