pub mod Beginnings
pub mod Grown
pub mod Adding
