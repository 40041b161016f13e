pub mod Kept
pub mod Frictionless
pub mod Laws64
pub mod ContactRows
