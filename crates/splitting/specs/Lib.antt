pub mod Nodes
pub mod Stripping
pub mod Choosing
pub mod Terms
pub mod InnerWords
pub mod InnerChoose
