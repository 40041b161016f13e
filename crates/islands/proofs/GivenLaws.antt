-- Islands whose labels are given slot by slot.
use Rattle.std.proofs.Common.{◌≡◌, ◌≢◌, ℕ, zero, suc, ◌+◌, ◌-◌, ◌<◌, ◌≤◌, ◌||◌, ◌⊎◌, [], ◌∷◌, ◌++◌, length, take, replicate, Option, Some, None, Bool, true, false, cond, min, inl, inr, arith, refl, sym, ap, ◌∙◌, get_or-set_same, get_or-set_other}
use Rattle.std.proofs.lemmas.Grind.{common_steps}
use Rattle.std.proofs.lemmas.Bool.{cases_lt, cases_eq, false≢true}
use Rattle.std.proofs.lemmas.List.{length-set, length-map}
use Rattle.islands.specs.declared.label.Label.{Label}
use Rattle.islands.specs.Labels.{Labels, label_at, is_in, IsIn, own_label, relabel, relabelled, with_state, added, union_label, merged, merged_by}
use Rattle.islands.specs.declared.threads.Note.{Note}
use Rattle.islands.specs.Standing.{AreWidened, NodeEntries, node_at}
use Rattle.islands.specs.Packed.{Heads, InPart, IsStanding, Notes, in_part, label_in, labels_by, note_at}
use Rattle.islands.specs.Given.{IsNamed, CanCome, labels_with, labels_with_any}
use Rattle.islands.proofs.LabelLemmas.{added_here, added_other, relabel_at, in_case, in_is, in_some, same_by_name, past}
use Rattle.islands.proofs.SlotLemmas.{same_labels}
use Rattle.islands.proofs.StandingLemmas.{own_inverse, slot_note}

-- ---- one more mover

both_true : (p q : Bool) (to o : Option Label) → p ≡ true → cond (p || q) to o ≡ to
both_true p q to o e = rw e refl

second_true : (p q : Bool) (to o : Option Label) → q ≡ true → cond (p || q) to o ≡ to
second_true true q to o e = refl
second_true false q to o e = rw e refl

both_false : (p q : Bool) (to o : Option Label) → p ≡ false → q ≡ false → cond (p || q) to o ≡ o
both_false p q to o e f = rw (e, f) refl

-- what the label at the name is once the mover has come alone
abbrev pub IsFound : Labels → ℕ → Label → Label → Type 0
IsFound labels slot l x = (label_at (added labels slot) l.name ≡ Some x) × (x.name ≡ l.name)

pub found : (labels : Labels) (slot : ℕ) (l : Label) → IsNamed labels slot l → (x : Label) × IsFound labels slot l x
found labels slot l named = elim named [
  | inl e ↦ (own_label slot, (ap (label_at (added labels slot)) e ∙ added_here labels slot, sym e))
  | inr p ↦ let away : l.name ≢ slot = λ e. let lt = p.0 in absurd (omega (arith, lt, e)) in (l, (added_other labels slot l.name away ∙ p.1, refl))
]

-- the two labels in hand
at_once : (l u : Label) (slot : ℕ) (o : Option Label) → u.name ≡ l.name → (is_in o l.name ≡ true) ⊎ (is_in o slot ≡ true) → relabel l.name l.name l (relabel l.name slot u o) ≡ Some l
at_once l u slot o same either =
    let first : relabel l.name slot u o ≡ Some u = elim either [ inl e ↦ both_true (is_in o l.name) (is_in o slot) (Some u) o e | inr e ↦ second_true (is_in o l.name) (is_in o slot) (Some u) o e ] in
    ap (relabel l.name l.name l) first ∙ both_true (is_in (Some u) l.name) (is_in (Some u) l.name) (Some l) (Some u) (in_some u l.name same)

stays : (l u : Label) (slot : ℕ) (o : Option Label) → is_in o l.name ≡ false → is_in o slot ≡ false → relabel l.name l.name l (relabel l.name slot u o) ≡ o
stays l u slot o e f =
    let first : relabel l.name slot u o ≡ o = both_false (is_in o l.name) (is_in o slot) (Some u) o e f in
    ap (relabel l.name l.name l) first ∙ both_false (is_in o l.name) (is_in o l.name) (Some l) o e e

-- the labels once it has come
come_at : (labels : Labels) (slot : ℕ) (l u : Label) (s : ℕ) → CanCome labels slot l → u.name ≡ l.name → relabel l.name l.name l (relabel l.name slot u (label_at (added labels slot) s)) ≡ label_at (labels_with labels slot l) s
come_at labels slot l u s can same = elim (cases_eq s slot) [
  | inl e ↦
      let own : label_at (added labels slot) s ≡ Some (own_label slot) = ap (label_at (added labels slot)) e ∙ added_here labels slot in
      let right : label_at (labels_with labels slot l) s ≡ Some l = ap (label_at (labels_with labels slot l)) e ∙ get_or-set_same labels slot (Some l) None can.there in
      at_once l u slot (label_at (added labels slot) s) same (inr (ap (λ o. is_in o slot) own ∙ in_some (own_label slot) slot refl)) ∙ sym right
  | inr away ↦
      let was : label_at (added labels slot) s ≡ label_at labels s = added_other labels slot s away in
      let right : label_at (labels_with labels slot l) s ≡ label_at labels s = get_or-set_other labels slot s (Some l) None away in
      let none : is_in (label_at labels s) slot ≡ false = elim (in_case (label_at labels s) slot) [
        | inr f ↦ f
        | inl t ↦ let m = in_is (label_at labels s) slot t in absurd (let wrong : None ≡ Some m.0 = sym can.fresh ∙ ap (label_at labels) (sym m.2) ∙ can.partition.named s m.0 m.1 in cc)
      ] in
      ap (λ o. relabel l.name l.name l (relabel l.name slot u o)) was ∙ elim (in_case (label_at labels s) l.name) [
        | inr f ↦ stays l u slot (label_at labels s) f none ∙ sym right
        | inl t ↦ let m = in_is (label_at labels s) l.name t in
            let is : m.0 ≡ l = elim can.named [
              | inl e ↦ absurd (let wrong : None ≡ Some m.0 = sym can.fresh ∙ ap (label_at labels) (sym (m.2 ∙ e)) ∙ can.partition.named s m.0 m.1 in cc)
              | inr p ↦ same_by_name labels s l.name m.0 l can.partition m.1 p.1 m.2
            ] in
            at_once l u slot (label_at labels s) same (inl t) ∙ ap (λ x. Some x) (sym is) ∙ sym m.1 ∙ sym right
      ]
]

union_name : (x : Label) (slot n : ℕ) → x.name ≡ n → n ≤ slot → (union_label x (own_label slot)).name ≡ n
union_name x slot n e le = let m : min x.name slot ≡ n = omega (arith, e, le) in m

added_long : (labels : Labels) (slot : ℕ) → slot < length labels → length (added labels slot) ≡ length labels
added_long labels slot lt = grind (arith, common_steps)

at_most : (labels : Labels) (slot : ℕ) (l : Label) → IsNamed labels slot l → l.name ≤ slot
at_most labels slot l named = elim named [ inl e ↦ omega (arith, e) | inr p ↦ let lt = p.0 in omega (arith, lt) ]

pub come : (labels : Labels) (slot : ℕ) (l : Label) → CanCome labels slot l → with_state l.name l.state (merged (added labels slot) l.name slot) ≡ labels_with labels slot l
unfolding merged
come labels slot l can =
    let x = found labels slot l can.named in
    let u : Label = union_label x.0 (own_label slot) in
    let name : u.name ≡ l.name = union_name x.0 slot l.name x.1.1 (at_most labels slot l can.named) in
    let now : Labels = added labels slot in
    let one : merged now l.name slot ≡ relabelled l.name slot u now = ap (λ o. merged_by o (label_at now slot) now) x.1.0 ∙ ap (λ o. merged_by (Some x.0) o now) (added_here labels slot) ∙ ap (λ n. relabelled n slot u now) x.1.1 in
    ap (with_state l.name l.state) one ∙ same_labels (with_state l.name l.state (relabelled l.name slot u now)) (labels_with labels slot l)
    (length-map (relabelled l.name slot u now) (relabel l.name l.name l) ∙ length-map now (relabel l.name slot u) ∙ added_long labels slot can.there ∙ sym (length-set labels slot (Some l)))
    (λ s. relabel_at l.name l.name l (relabelled l.name slot u now) s ∙ ap (relabel l.name l.name l) (relabel_at l.name slot u now s) ∙ come_at labels slot l u s can name)

-- ---- the calls

pub in_merged : (labels : Labels) (slot : ℕ) (l : Label) → IsNamed labels slot l → IsIn (merged (added labels slot) l.name slot) l.name l.name
unfolding merged
in_merged labels slot l named =
    let x = found labels slot l named in
    let u : Label = union_label x.0 (own_label slot) in
    let now : Labels = added labels slot in
    let one : merged now l.name slot ≡ relabelled l.name slot u now = ap (λ o. merged_by o (label_at now slot) now) x.1.0 ∙ ap (λ o. merged_by (Some x.0) o now) (added_here labels slot) ∙ ap (λ n. relabelled n slot u now) x.1.1 in
    let name : u.name ≡ l.name = union_name x.0 slot l.name x.1.1 (at_most labels slot l named) in
    let at : label_at (relabelled l.name slot u now) l.name ≡ Some u = relabel_at l.name slot u now l.name ∙ both_true (is_in (label_at now l.name) l.name) (is_in (label_at now l.name) slot) (Some u) (label_at now l.name) (ap (λ o. is_in o l.name) x.1.0 ∙ in_some x.0 l.name x.1.1) in
    ap (λ (ls : Labels). is_in (label_at ls l.name) l.name) one ∙ ap (λ o. is_in o l.name) at ∙ in_some u l.name name

-- ---- all movers, slot by slot

-- the labels of the first n slots
pub record AreFirst (all : Labels) (n : ℕ) (now : Labels) : Type 0 where
  pub size : length now ≡ length all
  pub done : (s : ℕ) → s < n → label_at now s ≡ label_at all s
  pub rest : (s : ℕ) → n ≤ s → label_at now s ≡ None

none_at : (n s : ℕ) → label_at (replicate n None) s ≡ None
none_at zero s = refl
none_at (suc n) zero = refl
none_at (suc n) (suc s) = none_at n s

-- slots without movers
blank_slots : (n : ℕ) → take n [] ++ replicate (n - 0) None ≡ replicate {A = Option Note} n None
blank_slots zero = refl
blank_slots (suc n) = let e : suc n - 0 ≡ suc n = omega arith in ap (λ k. replicate {A = Option Note} k None) e

blank_note : (n s : ℕ) → note_at (replicate n None) s ≡ None
blank_note zero s = refl
blank_note (suc n) zero = refl
blank_note (suc n) (suc s) = blank_note n s

blank_of : (node_entries : NodeEntries) (n : ℕ) (heads : Heads) → labels_by node_entries (replicate n None) heads ≡ replicate (length node_entries) None
blank_of [] n heads = refl
blank_of (p ∷ node_entries) n heads =
    let front : label_in heads (note_at (replicate n None) p.node) ≡ None = ap (label_in heads) (blank_note n p.node) in
    let rest : labels_by node_entries (replicate n None) heads ≡ replicate (length node_entries) None = blank_of node_entries n heads in
    rw (front, rest) refl

-- so many notes, and places for them
wide_empty : (node_entries now : NodeEntries) (n : ℕ) → node_entries ≡ [] → AreWidened node_entries n now → length now ≡ n
wide_empty node_entries now n none w = let z = w.size in let e : length node_entries ≡ 0 = ap (λ (ps : NodeEntries). length ps) none in omega (arith, z, e)

pub blank_labels : (node_entries now : NodeEntries) (old new : Notes) (heads : Heads) (n v : ℕ) → node_entries ≡ [] → AreWidened node_entries n now → old ≡ [] → v ≡ 0 → new ≡ take n old ++ replicate (n - v) None → labels_by now new heads ≡ replicate n None
blank_labels node_entries now old new heads n v empty wide none nothing is =
    let fresh : new ≡ take n [] ++ replicate (n - 0) None = rw (none, nothing) at is in
    ap (λ (ns : Notes). labels_by now ns heads) (fresh ∙ blank_slots n) ∙ blank_of now n heads ∙ ap (λ k. replicate {A = Option Label} k None) (wide_empty node_entries now n empty wide)

-- no part has a node, so that nothing is to be shown of parts
blank_in : (notes : Notes) (k s : ℕ) → note_at notes s ≡ None → InPart notes k s → ⊥
blank_in notes k s e h = false≢true (sym (ap (in_part k) e) ∙ h)

blank_size : (n : ℕ) → length (replicate {A = Option Note} n None) ≡ n
blank_size zero = refl
blank_size (suc n) = ap suc (blank_size n)

pub blank_placed : (node_entries now : NodeEntries) (old new : Notes) (heads : Heads) (n v : ℕ) → node_entries ≡ [] → AreWidened node_entries n now → old ≡ [] → v ≡ 0 → new ≡ take n old ++ replicate (n - v) None → length heads ≡ n → IsStanding now new heads
blank_placed node_entries now old new heads n v empty wide none nothing is sizes =
    let fresh : new ≡ replicate n None = (let e : new ≡ take n [] ++ replicate (n - 0) None = rw (none, nothing) at is in e ∙ blank_slots n) in
    let size : length new ≡ n = ap (λ (ns : Notes). length ns) fresh ∙ blank_size n in
    let long : length now ≡ length new = wide_empty node_entries now n empty wide ∙ sym size in
    let off : (s : ℕ) → note_at new s ≡ None = λ s. ap (λ (ns : Notes). note_at ns s) fresh ∙ blank_note n s in
    record {
      packed = record { sizes = sizes ∙ sym size; parts = λ k s h. absurd (blank_in new k s (off s) h) };
      size = long;
      inverse = own_inverse n now (rw empty at wide);
      named = λ k s h. absurd (blank_in new k (node_at now s) (off (node_at now s)) (sym (ap (in_part k) (slot_note now new s long)) ∙ h));
    }

pub none_first : (all now : Labels) (n : ℕ) → now ≡ replicate n None → n ≡ length all → AreFirst all 0 now
none_first all now n is e = rw is (record { size = grind (arith, common_steps, e); done = λ s lt. absurd (omega arith); rest = λ s le. none_at n s })

one_more : (all now : Labels) (n : ℕ) (o : Option Label) → AreFirst all n now → n < length all → o ≡ label_at all n → AreFirst all (n + 1) (labels_with_any now n o)
one_more all now n None first lt is = record {
  size = first.size;
  done = λ s below. elim (cases_lt s n) [ inl q ↦ first.done s q | inr q ↦ let e : s ≡ n = omega (arith, q, below) in ap (label_at now) e ∙ first.rest n (omega arith) ∙ is ∙ ap (label_at all) (sym e) ];
  rest = λ s le. first.rest s (omega (arith, le));
}
one_more all now n (Some l) first lt is =
    let here : n < length now = let size = first.size in omega (arith, size, lt) in
    record {
      size = length-set now n (Some l) ∙ first.size;
      done = λ s below. elim (cases_lt s n) [
        | inl q ↦ get_or-set_other now n s (Some l) None (λ e. absurd (omega (arith, q, e))) ∙ first.done s q
        | inr q ↦ let e : s ≡ n = omega (arith, q, below) in ap (label_at (labels_with now n l)) e ∙ get_or-set_same now n (Some l) None here ∙ is ∙ ap (label_at all) (sym e)
      ];
      rest = λ s le. get_or-set_other now n s (Some l) None (λ e. absurd (omega (arith, le, e))) ∙ first.rest s (omega (arith, le));
    }

pub first_more : (all now new : Labels) (n : ℕ) (o : Option Label) → AreFirst all n now → n < length all → o ≡ label_at all n → new ≡ labels_with_any now n o → AreFirst all (n + 1) new
first_more all now new n o first lt is e = rw e (one_more all now n o first lt is)

pub all_first : (all now : Labels) (n : ℕ) → AreFirst all n now → length all ≤ n → now ≡ all
all_first all now n first ended = same_labels now all first.size (λ s. elim (cases_lt s n) [ inl q ↦ first.done s q | inr q ↦ first.rest s q ∙ sym (past all s (omega (arith, q, ended))) ])
