pub mod Whole
pub mod Tokens
pub mod Leaves
pub mod Bodies
pub mod Texts
