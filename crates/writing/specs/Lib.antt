pub mod Placed
pub mod Text
