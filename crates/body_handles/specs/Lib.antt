pub mod SlotEntries
pub mod Calls
pub mod Orders
pub mod IdTexts
