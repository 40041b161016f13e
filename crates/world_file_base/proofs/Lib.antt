mod Listed
pub mod PointLaws
pub mod Ids
mod Numbers
