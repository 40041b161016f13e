-- What keeps the islands, as movers and links come and go.
use Rattle.std.specs.Prelude.{◌≡◌, ◌↔◌, ℕ, ◌⊎◌, true, false, Some, None}
use Rattle.islands.specs.declared.label.IslandState.{IslandState}
use Rattle.islands.specs.declared.label.Label.{Label}
use Rattle.islands.specs.Links.{Edges, Linked, Joined, reaches, IsPairOf}
use Rattle.islands.specs.Labels.{Labels, label_at, IsIn, is_loose, added, merged, loosened, taken_out, with_state, split_by}
use Rattle.islands.specs.Merging.{scattered_from, merged_all}
use Rattle.islands.specs.Partition.{IsPartition, AreIslands, AreTogether, Inside, IsSplit}

-- each link of the first is a link of the second
abbrev pub AreWithin : Edges → Edges → Type 0
AreWithin old new = (s t : ℕ) → Linked old s t → Linked new s t

-- a mover comes
abbrev pub AddingKeeps : Type 0
AddingKeeps = (edges : Edges) (labels : Labels) (slot : ℕ) → AreIslands (Linked edges) labels → label_at labels slot ≡ None → AreIslands (Linked edges) (added labels slot)

-- a link between a and b is there, and no other was gained
pub record Gains (old new : Edges) (a b : ℕ) : Type 0 where
  pub kept : AreWithin old new
  pub gained : (s t : ℕ) → Linked new s t → Linked old s t ⊎ IsPairOf a b s t
  pub there : Linked new a b

-- where two movers get a link, their islands are merged
abbrev pub MergingKeeps : Type 0
MergingKeeps = (old new : Edges) (labels : Labels) (a b : ℕ) (x y : Label) → AreIslands (Linked old) labels → label_at labels a ≡ Some x → label_at labels b ≡ Some y → Gains old new a b → AreIslands (Linked new) (merged labels a b)

-- no links but some in the island of the mover in the slot are lost
pub record Loses (old new : Edges) (labels : Labels) (slot : ℕ) : Type 0 where
  pub kept : AreWithin new old
  pub lost : (s t : ℕ) → Linked old s t → Linked new s t ⊎ AreTogether labels slot s

-- where an island loses links, it gets loose
abbrev pub LooseningKeeps : Type 0
LooseningKeeps = (old new : Edges) (labels : Labels) (slot : ℕ) → AreIslands (Linked old) labels → Loses old new labels slot → AreIslands (Linked new) (loosened labels slot)

-- no link has the slot
abbrev pub HasNone : Edges → ℕ → Type 0
HasNone edges slot = (s t : ℕ) → Linked edges s t → ((s ≡ slot) ⊎ (t ≡ slot)) → ⊥

-- a mover goes, and its links with it
abbrev pub TakingOutKeeps : Type 0
TakingOutKeeps = (old new : Edges) (labels : Labels) (slot : ℕ) → AreIslands (Linked old) labels → Loses old new labels slot → HasNone new slot → AreIslands (Linked new) (taken_out labels slot)

-- an island that isn't loose may fall asleep, and wake
abbrev pub StateChangeKeeps : Type 0
StateChangeKeeps = (edges : Edges) (labels : Labels) (name : ℕ) (state : IslandState) (l : Label) → AreIslands (Linked edges) labels → label_at labels name ≡ Some l → l.name ≡ name → is_loose l.state ≡ false → AreIslands (Linked edges) (with_state name state labels)

-- the edges are the links of the island, out of all
pub record AreLinksOf (every : Edges) (labels : Labels) (name : ℕ) (edges : Edges) : Type 0 where
  pub links : AreWithin edges every
  pub all : (s t : ℕ) → Linked every s t → IsIn labels name s → Linked edges s t
  pub inside : Inside labels name edges

-- an island may be split by its links, and its components take its place
abbrev pub SplittingKeeps : Type 0
SplittingKeeps = (links : Edges) (labels : Labels) (name : ℕ) (edges : Edges) → AreIslands (Linked links) labels → AreLinksOf links labels name edges → AreIslands (Linked links) (split_by labels name edges) × IsSplit labels name edges (split_by labels name edges)

-- what is found link by link is what a path of links leads to
abbrev pub ReachingIsJoined : Type 0
ReachingIsJoined = (edges : Edges) (a b : ℕ) → (reaches edges a b ≡ true) ↔ Joined (Linked edges) a b

-- an island whose movers stand alone, and are then merged from link to link, is split by these links
abbrev pub MergingSplits : Type 0
MergingSplits = (labels : Labels) (name : ℕ) (edges : Edges) → IsPartition labels → Inside labels name edges → merged_all (scattered_from 0 name labels) edges ≡ split_by labels name edges
