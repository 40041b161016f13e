pub mod SceneLaws
pub mod RowLaws
pub mod ToldLaws
