pub mod Casts
pub mod Hits
pub mod Laws
pub mod Reach
pub mod Surfaces
