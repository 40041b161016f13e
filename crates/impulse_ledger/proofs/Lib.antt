pub mod SumLemmas
pub mod CauseLemmas
pub mod KeptLemmas
pub mod GivenLaws
