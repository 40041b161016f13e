pub mod Members
pub mod Rising
pub mod LookupLemmas
pub mod ContactsLemmas
pub mod CircleLemmas
pub mod SeekLemmas
mod PackableLaws
pub mod MergeLaws
pub mod MergedLaws
pub mod CountingLaws
pub mod EndedLaws
pub mod RankLaws
pub mod JoinedLaws
pub mod SplitLaws
