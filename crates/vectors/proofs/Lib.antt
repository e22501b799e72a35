pub mod ComparingLaws
pub mod FrameLaws
pub mod TotalsLaws
