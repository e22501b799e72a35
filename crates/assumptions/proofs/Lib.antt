pub mod AssumedLaws
pub mod Demands
pub mod PairsLaws
pub mod SplitLaws
pub mod StatedLaws
pub mod TakenLaws
