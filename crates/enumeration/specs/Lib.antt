pub mod InnerScope
pub mod InnerState
pub mod Values
pub mod InnerRead
pub mod Lists
pub mod InnerLists
pub mod InnerEnter
