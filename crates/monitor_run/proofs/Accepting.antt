pub mod FewTerms
pub mod Specifications
pub mod TimedRows
