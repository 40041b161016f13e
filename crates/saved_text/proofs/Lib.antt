mod Adding
mod Ends
mod Narrow
mod Objects
pub mod Reading
