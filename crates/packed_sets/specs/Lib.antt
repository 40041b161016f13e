pub mod Packs
pub mod Notes
pub mod Marks
pub mod Once
pub mod Linked
