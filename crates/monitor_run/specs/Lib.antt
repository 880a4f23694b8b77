-- What the parts of a run promise one another; what is promised of the whole stands in `run_model`.
pub mod Standing
pub mod Judging
pub mod Reading
pub mod Opening
pub mod Finishing
