-- What has to be believed of a run, in the order in which it is read; `Ran` is the statement.
pub mod Job
pub mod Verdicts
pub mod Limits
pub mod Accepted
pub mod Course
pub mod Walk
pub mod Uses
pub mod Went
pub mod Stage
pub mod Lines
pub mod Ran
