pub mod Texts
pub mod Clear
pub mod Tags
pub mod Logs
