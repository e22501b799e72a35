pub mod Demands
pub mod GapLinesLaws
pub mod GoingLaws
pub mod LineLaws
pub mod PrintLaws
pub mod PrintedLaws
pub mod WalkLinesLaws
