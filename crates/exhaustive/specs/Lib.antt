pub mod AllModels
pub mod Comparisons
