pub mod EdgeCases
pub mod TextCases
