pub mod ByBoxesLaws
pub mod FramedLaws
pub mod PosedLaws
pub mod ShownLaws
pub mod ThroughLaws
pub mod AllHitsLaws
pub mod CountLaws
pub mod OnShapeLaws
