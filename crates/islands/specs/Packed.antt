-- Islands as threads through the nodes of their movers: what is kept by node, which labels that means by slot, and what
-- holds of it.
use Rattle.std.specs.Prelude.{◌≡◌, ◌≢◌, ◌↔◌, ◌++◌, replicate, nat_eq, Contains, ℕ, suc, ◌-◌, ◌+◌, ◌<◌, ◌≤◌, List, length, Some, None, Option, map, ◌==◌, ◌&&◌, ◌^◌, Bool, true, false, count_by, nat_le, slice_set}
use Rattle.std.specs.List.{slice_index_or, IsDistinct}
use Rattle.islands.specs.declared.threads.Note.{Note}
use Rattle.islands.specs.declared.threads.Head.{Head}
use Rattle.islands.specs.declared.label.Label.{Label}
use Rattle.islands.specs.declared.thread_nodes.NodeEntry.{NodeEntry}
use Rattle.islands.specs.Labels.{Labels, label_at, is_in, own_label}
use Rattle.islands.specs.Standing.{AreInverse, NodeEntries, slot_at}

-- by node the note of the mover there, if there is one
abbrev pub Notes : Type 0
Notes = List (Option Note)

abbrev pub note_at : Notes → ℕ → Option Note
note_at notes slot = slice_index_or notes slot None

-- by node the head of the part that is led from there, if one is
abbrev pub Heads : Type 0
Heads = List Head

-- of the part that the mover in the slot, which stands at the node, is alone
abbrev pub own_head : ℕ → ℕ → Head
own_head node slot = record { label = own_label slot; first = node; count = 1 }

abbrev pub own_note : ℕ → Note
own_note node = record { part = node; rank = 0; next = None }

-- what stands past the end
abbrev pub no_head : Head
no_head = record { label = own_label 0; first = 0; count = 0 }

abbrev pub head_at : Heads → ℕ → Head
head_at heads part = slice_index_or heads part no_head

-- the note is that of a member of the part
abbrev pub in_part : ℕ → Option Note → Bool
in_part part None = false
in_part part (Some n) = n.part == part

abbrev pub InPart : Notes → ℕ → ℕ → Type 0
InPart notes part slot = in_part part (note_at notes slot) ≡ true

abbrev pub rank_of : Option Note → ℕ
rank_of None = 0
rank_of (Some n) = n.rank

abbrev pub next_of : Option Note → Option ℕ
next_of None = None
next_of (Some n) = n.next

abbrev pub rank_at : Notes → ℕ → ℕ
rank_at notes slot = rank_of (note_at notes slot)

abbrev pub next_at : Notes → ℕ → Option ℕ
next_at notes slot = next_of (note_at notes slot)

abbrev pub name_of : Heads → ℕ → ℕ
name_of heads part = (head_at heads part).label.name

abbrev pub part_in : Option Note → Option ℕ
part_in None = None
part_in (Some n) = Some n.part

-- ---- the labels

abbrev pub label_in : Heads → Option Note → Option Label
label_in heads None = None
label_in heads (Some n) = Some (head_at heads n.part).label

-- of notes by slot
abbrev pub labels_of : Notes → Heads → Labels
labels_of notes heads = map (label_in heads) notes

-- the notes by slot
abbrev pub by_slot : NodeEntries → Notes → Notes
by_slot node_entries notes = map (λ (p : NodeEntry). note_at notes p.node) node_entries

-- the labels by slot, of notes by node
abbrev pub labels_by : NodeEntries → Notes → Heads → Labels
labels_by node_entries notes heads = labels_of (by_slot node_entries notes) heads

-- ---- what holds

-- how many members a part has
abbrev pub counted : ℕ → Notes → ℕ
counted part notes = count_by (in_part part) notes

-- how many members a thread still leads to at most
abbrev pub ahead : Notes → Option ℕ → ℕ
ahead notes None = 0
ahead notes (Some slot) = suc (rank_at notes slot)

-- A part is led from the node where its thread ends. Its thread begins at its node of the highest rank, and goes on
-- from each to the one of the next lower rank. No two of its nodes have one rank, and ranks are below the count.
pub record IsPart (notes : Notes) (heads : Heads) (part : ℕ) : Type 0 where
  pub led : InPart notes part part
  pub end : rank_at notes part ≡ 0
  pub first : InPart notes part (head_at heads part).first
  pub last : (s : ℕ) → InPart notes part s → rank_at notes s ≤ rank_at notes (head_at heads part).first
  pub next : (s t : ℕ) → InPart notes part s → next_at notes s ≡ Some t → InPart notes part t × (rank_at notes t < rank_at notes s)
  pub nearest : (s j : ℕ) → InPart notes part s → InPart notes part j → rank_at notes j < rank_at notes s → rank_at notes j < ahead notes (next_at notes s)
  pub apart : (s j : ℕ) → InPart notes part s → InPart notes part j → rank_at notes s ≡ rank_at notes j → s ≡ j
  pub below : (s : ℕ) → InPart notes part s → rank_at notes s < (head_at heads part).count
  pub size : (head_at heads part).count ≡ counted part notes

-- each mover is in a part, which is as above
pub record IsPacked (notes : Notes) (heads : Heads) : Type 0 where
  pub sizes : length heads ≡ length notes
  pub parts : (k s : ℕ) → InPart notes k s → IsPart notes heads k

-- the slot is the lowest of the part's, where the notes are by slot
abbrev pub IsLowestIn : Notes → ℕ → ℕ → Type 0
IsLowestIn notes part low = InPart notes part low × ((s : ℕ) → InPart notes part s → low ≤ s)

-- each part is named by its lowest slot, where the notes are by slot
abbrev pub AreNamed : Notes → Heads → Type 0
AreNamed notes heads = (k s : ℕ) → InPart notes k s → IsLowestIn notes k (name_of heads k)

-- the threads are as above, the slots stand along them, and each part is named by its lowest slot
pub record IsStanding (node_entries : NodeEntries) (notes : Notes) (heads : Heads) : Type 0 where
  pub packed : IsPacked notes heads
  pub size : length node_entries ≡ length notes
  pub inverse : AreInverse node_entries
  pub named : AreNamed (by_slot node_entries notes) heads

-- the part is the island of this name, or there is no such island
abbrev pub IsNamedPart : NodeEntries → Notes → Heads → ℕ → Option ℕ → Type 0
IsNamedPart node_entries notes heads name None = (s : ℕ) → is_in (label_at (labels_by node_entries notes heads) s) name ≡ false
IsNamedPart node_entries notes heads name (Some part) = InPart notes part part × (name_of heads part ≡ name)

-- the members of a part, each once, where the notes are by slot
pub record AreMembers (notes : Notes) (part : ℕ) (members : List ℕ) : Type 0 where
  pub all : (s : ℕ) → Contains members s ↔ InPart notes part s
  pub apart : IsDistinct nat_eq members

-- What the type keeps, beside the room in its lists.
pub record IsKept (node_entries : NodeEntries) (notes : Notes) (heads : Heads) (node_entries_capacity notes_capacity heads_capacity room : ℕ) : Type 0 where
  pub standing : IsStanding node_entries notes heads
  pub few : length notes ≤ 2 ^ 32
  pub node_entries_room : room ≤ node_entries_capacity
  pub notes_room : room ≤ notes_capacity
  pub heads_room : room ≤ heads_capacity

-- ---- walks along a thread

-- the walk has passed this member: its rank is not below the bound
abbrev pub has_passed : ℕ → ℕ → Option Note → Bool
has_passed part bound None = false
has_passed part bound (Some n) = n.part == part && nat_le bound n.rank

-- ---- a part joins another

abbrev pub or_first : Option ℕ → ℕ → ℕ
or_first None first = first
or_first (Some slot) first = slot

-- the note of a mover once its part has come before the part `to` of `count` members, of which the thread began at
-- `first`
abbrev pub moved_note : ℕ → ℕ → ℕ → Note → Note
moved_note to count first n = record { part = to; rank = n.rank + count; next = Some (or_first n.next first) }

-- the notes once the part `from` has joined the part `to`
pub record AreJoined (old : Notes) (heads : Heads) (to part : ℕ) (new : Notes) : Type 0 where
  pub size : length new ≡ length old
  pub others : (s : ℕ) → in_part part (note_at old s) ≡ false → note_at new s ≡ note_at old s
  pub moved : (s : ℕ) (n : Note) → note_at old s ≡ Some n → n.part ≡ part → note_at new s ≡ Some (moved_note to (head_at heads to).count (head_at heads to).first n)

abbrev pub joined_head : Heads → ℕ → ℕ → Label → Head
joined_head heads to part label = record { label = label; first = (head_at heads part).first; count = (head_at heads to).count + (head_at heads part).count }

abbrev pub labelled_head : Heads → ℕ → Label → Head
labelled_head heads part label = record { label = label; first = (head_at heads part).first; count = (head_at heads part).count }

-- ---- a mover leaves its part, from the front of its thread

abbrev pub dropped_head : Notes → Heads → ℕ → Head
dropped_head notes heads part = record { label = (head_at heads part).label; first = or_first (next_at notes (head_at heads part).first) part; count = (head_at heads part).count - 1 }

-- the notes and heads once the first node has left the part
pub record IsDropped (old : Notes) (heads : Heads) (part : ℕ) (new : Notes) (also : Heads) : Type 0 where
  pub notes_are : new ≡ slice_set old (head_at heads part).first None
  pub heads_are : also ≡ slice_set heads part (dropped_head old heads part)

-- the slot is the first of the part's from this one on, where the notes are by slot
abbrev pub IsFirstFrom : Notes → ℕ → ℕ → ℕ → Type 0
IsFirstFrom notes part from slot = InPart notes part slot × ((t : ℕ) → from ≤ t → t < slot → in_part part (note_at notes t) ≡ false)

-- the part has no slot below this one
abbrev pub HasNoneBelow : Notes → ℕ → ℕ → Type 0
HasNoneBelow notes part slot = (t : ℕ) → InPart notes part t → slot ≤ t

-- the part is named by its lowest slot, but that the mover in this slot has left it
pub record IsLeftBy (notes : Notes) (heads : Heads) (part slot : ℕ) : Type 0 where
  pub gone : (t : ℕ) → InPart notes part t → t ≢ slot
  pub low : (t : ℕ) → InPart notes part t → name_of heads part ≤ t
  pub home : name_of heads part ≢ slot → InPart notes part (name_of heads part)

-- ---- a mover comes

-- at least n items
abbrev pub filled : {X : Type 0} → X → List X → ℕ → List X
filled item items n = items ++ replicate (n - length items) item

-- ---- a part is scattered

-- the notes and heads once each of the members, which are slots, is a part of its own
pub record AreScattered (node_entries : NodeEntries) (old : Notes) (heads : Heads) (members : List ℕ) (new : Notes) (also : Heads) : Type 0 where
  pub size : length new ≡ length old
  pub heads_size : length also ≡ length heads
  pub notes_alone : (k : ℕ) → Contains members (slot_at node_entries k) → note_at new k ≡ Some (own_note k)
  pub heads_alone : (k : ℕ) → Contains members (slot_at node_entries k) → head_at also k ≡ own_head k (slot_at node_entries k)
  pub notes_kept : (k : ℕ) → (Contains members (slot_at node_entries k) → ⊥) → note_at new k ≡ note_at old k
  pub heads_kept : (k : ℕ) → (Contains members (slot_at node_entries k) → ⊥) → head_at also k ≡ head_at heads k
