-- Trusted: What makes labels a partition of the movers, what makes it the islands of links, and what a split is.
use Rattle.std.specs.Prelude.{◌≡◌, ℕ, ◌≤◌, length, Some, false, Contains}
use Rattle.islands.specs.declared.label.Label.{Label}
use Rattle.islands.specs.Links.{Edges, Joined, Linked}
use Rattle.islands.specs.Labels.{Labels, label_at, is_in, IsIn, is_loose, own_label}

-- An island's name is its lowest slot, and its movers have one label.
pub record IsPartition (labels : Labels) : Type 0 where
  pub low : (slot : ℕ) (l : Label) → label_at labels slot ≡ Some l → l.name ≤ slot
  pub named : (slot : ℕ) (l : Label) → label_at labels slot ≡ Some l → label_at labels l.name ≡ Some l

-- two movers are in one island
abbrev pub AreTogether : Labels → ℕ → ℕ → Type 0
AreTogether labels a b = (l : Label) × (label_at labels a ≡ Some l) × (label_at labels b ≡ Some l)

-- Linked movers are in one island, so both are awake or both asleep; and an island that isn't loose is one component:
-- each of its movers is joined to each other, and by the first clause to none outside.
pub record AreIslands (R : ℕ → ℕ → Type 0) (labels : Labels) : Type 0 where
  pub partition : IsPartition labels
  pub together : (a b : ℕ) → R a b → AreTogether labels a b
  pub connected : (a b : ℕ) (l : Label) → label_at labels a ≡ Some l → label_at labels b ≡ Some l → is_loose l.state ≡ false → Joined R a b

-- both ends of each link are in the island
abbrev pub Inside : Labels → ℕ → Edges → Type 0
Inside labels name edges = (a b : ℕ) → Contains edges (a, b) → IsIn labels name a × IsIn labels name b

-- the mover's island is all that is joined to it, under the lowest of these, and isn't loose
pub record IsComponent (edges : Edges) (labels : Labels) (slot : ℕ) : Type 0 where
  pub name : ℕ
  pub label : label_at labels slot ≡ Some (own_label name)
  pub joined : Joined (Linked edges) slot name
  pub lowest : (other : ℕ) → Joined (Linked edges) slot other → name ≤ other

-- an island is replaced by its components
pub record IsSplit (old : Labels) (name : ℕ) (edges : Edges) (new : Labels) : Type 0 where
  pub size : length new ≡ length old
  pub others : (slot : ℕ) → is_in (label_at old slot) name ≡ false → label_at new slot ≡ label_at old slot
  pub members : (slot : ℕ) → IsIn old name slot → IsComponent edges new slot
