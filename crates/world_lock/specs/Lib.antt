pub mod Journals
pub mod Headline
pub mod Tallies
pub mod Histories
