-- Parts as the slots see them: what holds of the notes by node holds of those by slot, where each part is named by its
-- lowest slot.
use Rattle.std.proofs.Common.{◌≡◌, ◌≢◌, ℕ, ◌<◌, length, Some, inl, inr, arith, sym, ap, ◌∙◌, slice_set}
use Rattle.std.proofs.lemmas.Bool.{cases_eq}
use Rattle.islands.specs.declared.threads.Head.{Head}
use Rattle.islands.specs.declared.label.Label.{Label}
use Rattle.islands.specs.Labels.{relabelled, union_label}
use Rattle.islands.specs.Standing.{NodeEntries, node_at, slot_at}
use Rattle.islands.specs.Packed.{AreJoined, AreNamed, Heads, InPart, IsLowestIn, IsPacked, IsStanding, Notes, by_slot, head_at, in_part, joined_head, labelled_head, labels_by, name_of, note_at, part_in}
use Rattle.islands.proofs.PartLemmas.{in_of_part, short}
use Rattle.islands.proofs.StandingLemmas.{node_note, slot_note, slots_size}
use Rattle.islands.proofs.JoinPartLemmas.{IsUnion, head_kept, head_set, in_union, is_left, is_moved, joined_labels, joined_none, joined_packed, labelled_labels, labelled_packed, one_union, other_test}

-- ---- who is in a part

pub slot_in : (node_entries : NodeEntries) (notes : Notes) (heads : Heads) (k s : ℕ) → IsStanding node_entries notes heads → InPart (by_slot node_entries notes) k s → InPart notes k (node_at node_entries s)
slot_in node_entries notes heads k s w h = sym (ap (in_part k) (slot_note node_entries notes s w.size)) ∙ h

-- the slot of a node of the part
pub node_in : (node_entries : NodeEntries) (notes : Notes) (heads : Heads) (k v : ℕ) → IsStanding node_entries notes heads → InPart notes k v → InPart (by_slot node_entries notes) k (slot_at node_entries v)
node_in node_entries notes heads k v w h = ap (in_part k) (node_note node_entries notes v w.size w.inverse) ∙ h

pub led_by : (node_entries : NodeEntries) (notes : Notes) (heads : Heads) (slot part : ℕ) → IsStanding node_entries notes heads → part_in (note_at (by_slot node_entries notes) slot) ≡ Some part → InPart notes part part
led_by node_entries notes heads slot part w e = (w.packed.parts part (node_at node_entries slot) (slot_in node_entries notes heads part slot w (in_of_part (note_at (by_slot node_entries notes) slot) part e))).led

pub led_short : (notes : Notes) (heads : Heads) (part : ℕ) → IsPacked notes heads → InPart notes part part → part < length heads
led_short notes heads part p h = let lt = short notes part part h in let z = p.sizes in omega (arith, lt, z)

-- ---- another label

named_as : (notes : Notes) (heads also : Heads) (m : ℕ) → IsLowestIn notes m (name_of heads m) → name_of also m ≡ name_of heads m → IsLowestIn notes m (name_of also m)
named_as notes heads also m p e = rw e p

-- the head of another part is as it was, and that of this one has its name
renamed : (notes : Notes) (heads also : Heads) (k : ℕ) → AreNamed notes heads → name_of also k ≡ name_of heads k → ((m : ℕ) → m ≢ k → head_at also m ≡ head_at heads m) → AreNamed notes also
renamed notes heads also k p name others m s h = elim (cases_eq m k) [
  | inl e ↦ named_as notes heads also m (p m s h) (ap (name_of also) e ∙ name ∙ ap (name_of heads) (sym e))
  | inr away ↦ named_as notes heads also m (p m s h) (ap (λ (x : Head). x.label.name) (others m away))
]

pub labelled_placed : (node_entries : NodeEntries) (notes : Notes) (heads : Heads) (k : ℕ) (label : Label) → IsStanding node_entries notes heads → InPart notes k k → label.name ≡ name_of heads k → IsStanding node_entries notes (slice_set heads k (labelled_head heads k label))
labelled_placed node_entries notes heads k label w h e =
    let also : Heads = slice_set heads k (labelled_head heads k label) in
    let head : head_at also k ≡ labelled_head heads k label = head_set heads k (labelled_head heads k label) (led_short notes heads k w.packed h) in
    record {
      packed = labelled_packed notes heads k label w.packed h;
      size = w.size;
      inverse = w.inverse;
      named = renamed (by_slot node_entries notes) heads also k w.named (ap (λ (x : Head). x.label.name) head ∙ e) (λ m away. head_kept heads k m (labelled_head heads k label) away);
    }

pub relabelled_by : (node_entries : NodeEntries) (notes : Notes) (heads : Heads) (k : ℕ) (label : Label) → IsStanding node_entries notes heads → InPart notes k k
    → labels_by node_entries notes (slice_set heads k (labelled_head heads k label)) ≡ relabelled (name_of heads k) (name_of heads k) label (labels_by node_entries notes heads)
relabelled_by node_entries notes heads k label w h = labelled_labels (by_slot node_entries notes) heads k (slot_at node_entries k) label w.named (node_in node_entries notes heads k k w h) (led_short notes heads k w.packed h)

-- ---- a union

-- the notes by slot are joined as those by node are
slots_joined : (node_entries : NodeEntries) (old : Notes) (heads : Heads) (a b : ℕ) (new : Notes) → IsStanding node_entries old heads → AreJoined old heads a b new → AreJoined (by_slot node_entries old) heads a b (by_slot node_entries new)
slots_joined node_entries old heads a b new w j =
    let size : length node_entries ≡ length new = w.size ∙ sym j.size in
    record {
      size = slots_size node_entries new ∙ sym (slots_size node_entries old);
      others = λ s off. slot_note node_entries new s size ∙ j.others (node_at node_entries s) (sym (ap (in_part b) (slot_note node_entries old s w.size)) ∙ off) ∙ sym (slot_note node_entries old s w.size);
      moved = λ s n e f. slot_note node_entries new s size ∙ j.moved (node_at node_entries s) n (sym (slot_note node_entries old s w.size) ∙ e) f;
    }

union_named : (old : Notes) (heads : Heads) (a b v u : ℕ) (new : Notes) (also : Heads) (label : Label) → AreNamed old heads → InPart old a v → InPart old b u → a ≢ b → AreJoined old heads a b new → IsUnion heads a b label → name_of also a ≡ label.name → IsLowestIn new a (name_of also a)
union_named old heads a b v u new also label p h g apart j union name = (
  elim union.of_one [
    | inl e ↦ ap (λ n. in_part a (note_at new n)) (name ∙ e) ∙ (is_left old heads a b new (name_of heads a) j apart (p a v h).0).in_new
    | inr e ↦ ap (λ n. in_part a (note_at new n)) (name ∙ e) ∙ (is_moved old heads a b new (name_of heads b) j (p b u g).0).in_new
  ],
  λ s k. elim (in_union old heads a b new s j apart k) [
    | inl l ↦ let le = (p a v h).1 s l.here in let one = union.to_first in omega (arith, le, one, name)
    | inr m ↦ let le = (p b u g).1 s m.here in let one = union.to_second in omega (arith, le, one, name)
  ],
)

-- whoever is in a third part is where it was
third_named : (old : Notes) (heads : Heads) (a b m s : ℕ) (new : Notes) (also : Heads) → AreNamed old heads → AreJoined old heads a b new → m ≢ a → m ≢ b → name_of also m ≡ name_of heads m → InPart new m s → IsLowestIn new m (name_of also m)
third_named old heads a b m s new also p j ma mb name h =
    let test = other_test old heads a b m new j ma mb in
    let was = p m s (sym (test s) ∙ h) in
    rw name (test (name_of heads m) ∙ was.0, λ t g. was.1 t (sym (test t) ∙ g))

joined_named : (old : Notes) (heads : Heads) (a b v u : ℕ) (new : Notes) (label : Label) → AreNamed old heads → InPart old a v → InPart old b u → a ≢ b → a < length heads → AreJoined old heads a b new → IsUnion heads a b label → AreNamed new (slice_set heads a (joined_head heads a b label))
joined_named old heads a b v u new label p h g apart lt j union m s here =
    let also : Heads = slice_set heads a (joined_head heads a b label) in
    elim (cases_eq m a) [
      | inl e ↦ rw e (union_named old heads a b v u new also label p h g apart j union (ap (λ (x : Head). x.label.name) (head_set heads a (joined_head heads a b label) lt)))
      | inr ma ↦
          let mb : m ≢ b = λ e. joined_none old heads a b new j apart s (ap (λ i. in_part i (note_at new s)) (sym e) ∙ here) in
          third_named old heads a b m s new also p j ma mb (ap (λ (x : Head). x.label.name) (head_kept heads a m (joined_head heads a b label) ma)) here
    ]

pub joined_placed : (node_entries : NodeEntries) (old : Notes) (heads : Heads) (a b : ℕ) (new : Notes) (label : Label) → IsStanding node_entries old heads → InPart old a a → InPart old b b → a ≢ b → AreJoined old heads a b new → IsUnion heads a b label
    → IsStanding node_entries new (slice_set heads a (joined_head heads a b label))
joined_placed node_entries old heads a b new label w h g apart j union = record {
  packed = joined_packed old heads a b new label w.packed h g apart j;
  size = w.size ∙ sym j.size;
  inverse = w.inverse;
  named = joined_named (by_slot node_entries old) heads a b (slot_at node_entries a) (slot_at node_entries b) (by_slot node_entries new) label w.named (node_in node_entries old heads a a w h) (node_in node_entries old heads b b w g) apart (led_short old heads a w.packed h) (slots_joined node_entries old heads a b new w j) union;
}

pub joined_by : (node_entries : NodeEntries) (old : Notes) (heads : Heads) (a b : ℕ) (new : Notes) (label : Label) → IsStanding node_entries old heads → InPart old a a → InPart old b b → a ≢ b → AreJoined old heads a b new
    → labels_by node_entries new (slice_set heads a (joined_head heads a b label)) ≡ relabelled (name_of heads a) (name_of heads b) label (labels_by node_entries old heads)
joined_by node_entries old heads a b new label w h g apart j =
    joined_labels (by_slot node_entries old) heads a b (slot_at node_entries a) (slot_at node_entries b) (by_slot node_entries new) label w.named (node_in node_entries old heads a a w h) (node_in node_entries old heads b b w g) apart (led_short old heads a w.packed h) (slots_joined node_entries old heads a b new w j)

-- two movers of one part
pub merged_one_placed : (node_entries : NodeEntries) (notes : Notes) (heads : Heads) (x y : ℕ) → IsStanding node_entries notes heads → InPart notes x x → x ≡ y → IsStanding node_entries notes (slice_set heads x (labelled_head heads x (union_label (head_at heads x).label (head_at heads y).label)))
merged_one_placed node_entries notes heads x y w h e = labelled_placed node_entries notes heads x (union_label (head_at heads x).label (head_at heads y).label) w h (one_union heads x y e)

pub merged_one_by : (node_entries : NodeEntries) (notes : Notes) (heads : Heads) (x y : ℕ) → IsStanding node_entries notes heads → InPart notes x x → x ≡ y
    → labels_by node_entries notes (slice_set heads x (labelled_head heads x (union_label (head_at heads x).label (head_at heads y).label))) ≡ relabelled (name_of heads x) (name_of heads y) (union_label (head_at heads x).label (head_at heads y).label) (labels_by node_entries notes heads)
merged_one_by node_entries notes heads x y w h e = relabelled_by node_entries notes heads x (union_label (head_at heads x).label (head_at heads y).label) w h
    ∙ ap (λ n. relabelled (name_of heads x) n (union_label (head_at heads x).label (head_at heads y).label) (labels_by node_entries notes heads)) (ap (name_of heads) e)
