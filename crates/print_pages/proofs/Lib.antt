pub mod LentLaws
pub mod GoingLaws
pub mod JoinedLaws
pub mod PrintedLaws
pub mod Demands
