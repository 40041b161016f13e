pub mod Boxes
pub mod Facings
pub mod Numbers
pub mod Options
pub mod Reciprocals
pub mod Refusals
pub mod Vectors
