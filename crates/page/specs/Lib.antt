pub mod PageLines
pub mod Pages
pub mod InnerPages
