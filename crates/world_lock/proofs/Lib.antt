mod StandLaws
mod HeadlineLaws
pub mod CrossingLaws
pub mod Tallying
pub mod Replaying
pub mod Holding
