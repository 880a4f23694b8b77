pub mod Along
pub mod Coded
pub mod Failing
pub mod Holding
pub mod Over
