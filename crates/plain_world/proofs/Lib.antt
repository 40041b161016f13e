pub mod BoxLemmas
pub mod FatLaws
pub mod KindLaws
mod SlowLaws
