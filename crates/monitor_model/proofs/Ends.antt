pub mod SameRows
pub mod OneEnd
