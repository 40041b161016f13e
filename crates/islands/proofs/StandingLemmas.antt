-- Where the slots stand: two that change places, more slots, and what the notes by slot are.
use Rattle.std.proofs.Common.{◌≡◌, ◌≢◌, ℕ, zero, suc, ◌+◌, ◌-◌, ◌<◌, ◌≤◌, List, [], ◌∷◌, ◌++◌, length, get_or, Option, Some, None, true, inl, inr, arith, refl, sym, ap, ◌∙◌, slice_set, get_or-set_same, get_or-set_other, ◌==◌}
use Rattle.std.proofs.lemmas.Grind.{common_steps}
use Rattle.std.proofs.lemmas.Bool.{cases_lt, cases_eq, eqb-true, false≢true}
use Rattle.std.proofs.lemmas.List.{length-set, length-map}
use Rattle.islands.specs.declared.threads.Note.{Note}
use Rattle.islands.specs.declared.thread_nodes.NodeEntry.{NodeEntry}
use Rattle.islands.specs.Standing.{NodeEntries, AreExchanged, AreInverse, AreWidened, IsPut, node_at, own_node_entry, slot_at}
use Rattle.islands.specs.Packed.{Notes, Heads, by_slot, head_at, in_part, label_in, note_at, part_in}
use Rattle.islands.proofs.PartLemmas.{note_past}

-- ---- what stands in the list

past_end : {X : Type 0} (xs : List X) (i : ℕ) (d : X) → length xs ≤ i → get_or xs i d ≡ d
past_end [] i d h = refl
past_end (x ∷ xs) zero d h = absurd (omega arith)
past_end (x ∷ xs) (suc i) d h = past_end xs i d (omega arith)

pub node_past : (node_entries : NodeEntries) (s : ℕ) → length node_entries ≤ s → node_at node_entries s ≡ s
node_past node_entries s h = ap (λ (p : NodeEntry). p.node) (past_end node_entries s (own_node_entry s) h)

pub slot_past : (node_entries : NodeEntries) (k : ℕ) → length node_entries ≤ k → slot_at node_entries k ≡ k
slot_past node_entries k h = ap (λ (p : NodeEntry). p.slot) (past_end node_entries k (own_node_entry k) h)

-- a slot that isn't past the end stands at a node that isn't
pub node_short : (node_entries : NodeEntries) (s : ℕ) → AreInverse node_entries → s < length node_entries → node_at node_entries s < length node_entries
node_short node_entries s w lt = elim (cases_lt (node_at node_entries s) (length node_entries)) [
  | inl h ↦ h
  | inr h ↦ let e : node_at node_entries s ≡ s = sym (slot_past node_entries (node_at node_entries s) h) ∙ w.back s in absurd (omega (arith, h, lt, e))
]

pub one_slot : (node_entries : NodeEntries) (s t : ℕ) → AreInverse node_entries → node_at node_entries s ≡ node_at node_entries t → s ≡ t
one_slot node_entries s t w e = sym (w.back s) ∙ ap (slot_at node_entries) e ∙ w.back t

-- ---- a slot is put at a node

set_here : (node_entries : NodeEntries) (i : ℕ) (p d : NodeEntry) → i < length node_entries → get_or (slice_set node_entries i p) i d ≡ p
set_here node_entries i p d lt = get_or-set_same node_entries i p d lt

abbrev pub with_node : NodeEntries → ℕ → ℕ → NodeEntries
with_node node_entries slot node = slice_set node_entries slot (record { node = node; slot = slot_at node_entries slot })

abbrev pub with_slot : NodeEntries → ℕ → ℕ → NodeEntries
with_slot node_entries node slot = slice_set node_entries node (record { node = node_at node_entries node; slot = slot })

slot_stays : (old : NodeEntries) (slot node k : ℕ) → slot < length old → slot_at (with_node old slot node) k ≡ slot_at old k
slot_stays old slot node k lt = elim (cases_eq k slot) [
  | inl e ↦ rw e (ap (λ (p : NodeEntry). p.slot) (set_here old slot (record { node = node; slot = slot_at old slot }) (own_node_entry slot) lt))
  | inr away ↦ ap (λ (p : NodeEntry). p.slot) (get_or-set_other old slot k (record { node = node; slot = slot_at old slot }) (own_node_entry k) away)
]

node_stays : (old : NodeEntries) (node slot s : ℕ) → node < length old → node_at (with_slot old node slot) s ≡ node_at old s
node_stays old node slot s lt = elim (cases_eq s node) [
  | inl e ↦ rw e (ap (λ (p : NodeEntry). p.node) (set_here old node (record { node = node_at old node; slot = slot }) (own_node_entry node) lt))
  | inr away ↦ ap (λ (p : NodeEntry). p.node) (get_or-set_other old node s (record { node = node_at old node; slot = slot }) (own_node_entry s) away)
]

pub is_put : (old : NodeEntries) (slot node : ℕ) (now new : NodeEntries) → slot < length old → node < length old → now ≡ with_node old slot node → new ≡ with_slot now node slot → IsPut old slot node new
is_put old slot node now new short there first then =
    let size : length now ≡ length old = ap length first ∙ length-set old slot (record { node = node; slot = slot_at old slot }) in
    let lt : node < length now = omega (arith, there, size) in
    let nodes : (s : ℕ) → node_at new s ≡ node_at now s = λ s. ap (λ (ps : NodeEntries). node_at ps s) then ∙ node_stays now node slot s lt in
    record {
      size = ap length then ∙ length-set now node (record { node = node_at now node; slot = slot }) ∙ size;
      node_here = nodes slot ∙ ap (λ (ps : NodeEntries). node_at ps slot) first ∙ ap (λ (p : NodeEntry). p.node) (set_here old slot (record { node = node; slot = slot_at old slot }) (own_node_entry slot) short);
      nodes = λ s away. nodes s ∙ ap (λ (ps : NodeEntries). node_at ps s) first ∙ ap (λ (p : NodeEntry). p.node) (get_or-set_other old slot s (record { node = node; slot = slot_at old slot }) (own_node_entry s) away);
      slot_here = ap (λ (ps : NodeEntries). slot_at ps node) then ∙ ap (λ (p : NodeEntry). p.slot) (set_here now node (record { node = node_at now node; slot = slot }) (own_node_entry node) lt);
      slots = λ k away. ap (λ (ps : NodeEntries). slot_at ps k) then ∙ ap (λ (p : NodeEntry). p.slot) (get_or-set_other now node k (record { node = node_at now node; slot = slot }) (own_node_entry k) away)
          ∙ ap (λ (ps : NodeEntries). slot_at ps k) first ∙ slot_stays old slot node k short;
    }

-- ---- two slots change places

-- where a slot stands after two were put where the other stood
record ArePut (old : NodeEntries) (a b : ℕ) (new : NodeEntries) : Type 0 where
  first : node_at new a ≡ node_at old b
  second : node_at new b ≡ node_at old a
  others : (s : ℕ) → s ≢ a → s ≢ b → node_at new s ≡ node_at old s
  slot_first : slot_at new (node_at old b) ≡ a
  slot_second : slot_at new (node_at old a) ≡ b
  slot_others : (k : ℕ) → k ≢ node_at old a → k ≢ node_at old b → slot_at new k ≡ slot_at old k

both_put : (old : NodeEntries) (a b : ℕ) (now new : NodeEntries) → AreInverse old → IsPut old a (node_at old b) now → IsPut now b (node_at old a) new → ArePut old a b new
both_put old a b now new w p q = record {
  first = elim (cases_eq a b) [
    | inl e ↦ ap (node_at new) e ∙ q.node_here ∙ ap (node_at old) e
    | inr away ↦ q.nodes a away ∙ p.node_here
  ];
  second = q.node_here;
  others = λ s far away. q.nodes s away ∙ p.nodes s far;
  slot_first = elim (cases_eq a b) [
    | inl e ↦ ap (slot_at new) (ap (node_at old) (sym e)) ∙ q.slot_here ∙ sym e
    | inr away ↦ q.slots (node_at old b) (λ e. away (sym (one_slot old b a w e))) ∙ p.slot_here
  ];
  slot_second = q.slot_here;
  slot_others = λ k far away. q.slots k far ∙ p.slots k away;
}

put_inverse : (old : NodeEntries) (a b : ℕ) (new : NodeEntries) → AreInverse old → ArePut old a b new → AreInverse new
put_inverse old a b new w p = record {
  back = λ s. elim (cases_eq s a) [
    | inl e ↦ rw e (ap (slot_at new) p.first ∙ p.slot_first)
    | inr far ↦ elim (cases_eq s b) [
      | inl e ↦ rw e (ap (slot_at new) p.second ∙ p.slot_second)
      | inr away ↦ ap (slot_at new) (p.others s far away) ∙ p.slot_others (node_at old s) (λ e. far (one_slot old s a w e)) (λ e. away (one_slot old s b w e)) ∙ w.back s
    ]
  ];
  forth = λ k. elim (cases_eq k (node_at old b)) [
    | inl e ↦ rw e (ap (node_at new) p.slot_first ∙ p.first)
    | inr away ↦ elim (cases_eq k (node_at old a)) [
      | inl e ↦ rw e (ap (node_at new) p.slot_second ∙ p.second)
      | inr far ↦
          let same : slot_at new k ≡ slot_at old k = p.slot_others k far away in
          ap (node_at new) same ∙ p.others (slot_at old k) (λ e. far (sym (w.forth k) ∙ ap (node_at old) e)) (λ e. away (sym (w.forth k) ∙ ap (node_at old) e)) ∙ w.forth k
    ]
  ];
}

pub are_exchanged : (old : NodeEntries) (a b : ℕ) (now new : NodeEntries) → AreInverse old → IsPut old a (node_at old b) now → IsPut now b (node_at old a) new → AreExchanged old a b new
are_exchanged old a b now new w p q =
    let put = both_put old a b now new w p q in
    record { size = q.size ∙ p.size; inverse = put_inverse old a b new w put; first = put.first; second = put.second; others = put.others }

-- ---- more slots

-- the list has so many slots, and each stands where it stood
pub record AreSoMany (old : NodeEntries) (n : ℕ) (now : NodeEntries) : Type 0 where
  pub size : length now ≡ n
  pub nodes : (s : ℕ) → node_at now s ≡ node_at old s
  pub slots : (k : ℕ) → slot_at now k ≡ slot_at old k

one_more : (now new : NodeEntries) (n : ℕ) → length now ≡ n → length new ≡ length (now ++ own_node_entry n ∷ []) → length new ≡ n + 1
one_more now new n z long = grind (arith, common_steps)

pub many_widened : (old now : NodeEntries) (n m : ℕ) → AreSoMany old m now → m ≡ length old + (n - length old) → AreWidened old n now
many_widened old now n m w e = record { size = w.size ∙ e; nodes = w.nodes; slots = w.slots }

pub widened_inverse : (old : NodeEntries) (n : ℕ) (new : NodeEntries) → AreWidened old n new → AreInverse old → AreInverse new
widened_inverse old n new e w = record {
  back = λ s. e.slots (node_at new s) ∙ ap (slot_at old) (e.nodes s) ∙ w.back s;
  forth = λ k. e.nodes (slot_at new k) ∙ ap (node_at old) (e.slots k) ∙ w.forth k;
}

pub own_inverse : (n : ℕ) (new : NodeEntries) → AreWidened [] n new → AreInverse new
own_inverse n new e = widened_inverse [] n new e (record { back = λ s. refl; forth = λ k. refl })

-- ---- the notes by slot

pub slots_size : (node_entries : NodeEntries) (notes : Notes) → length (by_slot node_entries notes) ≡ length node_entries
slots_size node_entries notes = length-map node_entries (λ (p : NodeEntry). note_at notes p.node)

slot_note_in : (node_entries : NodeEntries) (notes : Notes) (s : ℕ) (d : NodeEntry) → s < length node_entries → note_at (by_slot node_entries notes) s ≡ note_at notes (get_or node_entries s d).node
slot_note_in [] notes s d lt = absurd (omega arith)
slot_note_in (p ∷ node_entries) notes zero d lt = refl
slot_note_in (p ∷ node_entries) notes (suc s) d lt = slot_note_in node_entries notes s d (omega arith)

pub slot_note : (node_entries : NodeEntries) (notes : Notes) (s : ℕ) → length node_entries ≡ length notes → note_at (by_slot node_entries notes) s ≡ note_at notes (node_at node_entries s)
slot_note node_entries notes s e = elim (cases_lt s (length node_entries)) [
  | inl lt ↦ slot_note_in node_entries notes s (own_node_entry s) lt
  | inr le ↦
      let z = slots_size node_entries notes in
      note_past (by_slot node_entries notes) s (omega (arith, z, le)) ∙ sym (ap (note_at notes) (node_past node_entries s le) ∙ note_past notes s (omega (arith, e, le)))
]

-- the note of the slot that stands at a node
pub node_note : (node_entries : NodeEntries) (notes : Notes) (k : ℕ) → length node_entries ≡ length notes → AreInverse node_entries → note_at (by_slot node_entries notes) (slot_at node_entries k) ≡ note_at notes k
node_note node_entries notes k e w = slot_note node_entries notes (slot_at node_entries k) e ∙ ap (note_at notes) (w.forth k)

-- ---- notes of one part

pub same_in : (k : ℕ) (o p : Option Note) → part_in o ≡ part_in p → in_part k o ≡ in_part k p
same_in k None None e = refl
same_in k None (Some n) e = let wrong : None ≡ Some n.part = e in absurd cc
same_in k (Some m) None e = let wrong : Some m.part ≡ None = e in absurd cc
same_in k (Some m) (Some n) e = let f : m.part ≡ n.part = cc in ap (λ j. j == k) f

pub same_label : (heads : Heads) (o p : Option Note) → part_in o ≡ part_in p → label_in heads o ≡ label_in heads p
same_label heads None None e = refl
same_label heads None (Some n) e = let wrong : None ≡ Some n.part = e in absurd cc
same_label heads (Some m) None e = let wrong : Some m.part ≡ None = e in absurd cc
same_label heads (Some m) (Some n) e = let f : m.part ≡ n.part = cc in ap (λ j. Some (head_at heads j).label) f

pub part_of_in : (k : ℕ) (o : Option Note) → in_part k o ≡ true → part_in o ≡ Some k
part_of_in k None h = absurd (false≢true h)
part_of_in k (Some n) h = ap (λ j. Some j) (eqb-true n.part k h)
