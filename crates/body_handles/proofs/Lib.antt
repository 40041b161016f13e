pub mod LowestLemmas
pub mod TableLemmas
pub mod GoneLemmas
mod Decimals
