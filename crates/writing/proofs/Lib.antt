pub mod BlankLaws
pub mod ColumnLaws
pub mod DecimalLaws
pub mod LineLaws
pub mod PlacedLaws
