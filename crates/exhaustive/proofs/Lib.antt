pub mod AgreeLaws
pub mod AllModelsLaws
pub mod ComparisonLaws
pub mod SetLaws
