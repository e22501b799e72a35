pub mod InnerResults
pub mod Interface
