pub mod All
pub mod Given
pub mod Marked
pub mod Next
pub mod ToldList
pub mod Uses
