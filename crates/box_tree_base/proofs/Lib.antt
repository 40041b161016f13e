pub mod DepthLemmas
pub mod ForkLemmas
pub mod ListLemmas
pub mod RootLemmas
pub mod WalkLemmas
pub mod CrossingLemmas
