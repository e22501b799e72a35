pub mod PrintedPages
pub mod InnerParts
