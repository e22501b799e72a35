pub mod Sets
pub mod InnerMatched
pub mod Search
pub mod Result
pub mod Inner
pub mod Deficiency
