pub mod Sums
pub mod BodyWords
pub mod ConstraintWords
pub mod Digests
