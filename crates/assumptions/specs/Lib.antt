pub mod Assumed
pub mod FirstBad
pub mod InnerAssumed
pub mod Bytes
