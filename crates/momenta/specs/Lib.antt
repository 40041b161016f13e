pub mod Motions
pub mod ImpulseBounds
pub mod Impulses
pub mod Gains
pub mod Line64
pub mod Reciprocals
