pub mod Answers
pub mod Checking
pub mod Comparing
pub mod Corpus
pub mod Totals
