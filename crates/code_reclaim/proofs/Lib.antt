pub mod Trees
pub mod Searching
pub mod Striking
pub mod Counting
pub mod Walking
pub mod Telling
pub mod Sweeping
