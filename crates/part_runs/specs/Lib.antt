pub mod Hidden
pub mod Walks
pub mod Handing
pub mod Passes
pub mod Runs
pub mod Stages
pub mod ReadBack
pub mod Laws
