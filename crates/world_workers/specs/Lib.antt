pub mod Workers
pub mod Tasks
