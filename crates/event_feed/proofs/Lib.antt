pub mod OnceLemmas
pub mod OrderLemmas
