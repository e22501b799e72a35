pub mod CallLaws
pub mod ResultsLaws
pub mod SliceLaws
pub mod Theorems
