pub mod Rounding
pub mod Spins
pub mod Standing
pub mod Totals
pub mod MotionLaws
pub mod Courses
pub mod ImpulseLaws
pub mod Shares
pub mod NoImpulse
mod WarmLaws
pub mod Laws64
