-- A part that joins another: what holds of parts holds of the union.
use Rattle.std.proofs.Common.{[], ◌∷◌, ◌≡◌, ◌≢◌, ℕ, ◌+◌, ◌<◌, ◌≤◌, length, Option, Some, None, Bool, true, false, ◌⊎◌, ◌||◌, inl, inr, arith, refl, sym, ap, ◌∙◌, slice_set, get_or-set_same, get_or-set_other}
use Rattle.std.specs.Prelude.{cond}
use Rattle.std.proofs.lemmas.List.{length-set, length-map}
use Rattle.std.proofs.lemmas.Bool.{cases_eq, false≢true}
use Rattle.islands.specs.declared.threads.Note.{Note}
use Rattle.islands.specs.declared.threads.Head.{Head}
use Rattle.islands.specs.declared.label.Label.{Label}
use Rattle.islands.specs.Labels.{Labels, label_at, is_in, relabel, relabelled, union_label, merged, merged_by}
use Rattle.islands.specs.Packed.{Notes, note_at, Heads, head_at, no_head, labelled_head, in_part, InPart, rank_of, next_of, rank_at, next_at, name_of, label_in, labels_of, ahead, IsPart, IsPacked, AreNamed, moved_note, or_first, AreJoined, joined_head, part_in}
use Rattle.islands.proofs.LabelLemmas.{relabel_at, union_low}
use Rattle.islands.proofs.SlotLemmas.{same_labels}
use Rattle.islands.proofs.PartLemmas.{part_is, part_case, part_some, part_of_some, one_part, not_part, short, count_sum, ahead_same, part_stays, labels_at, label_of_part, in_name, part_kept, in_of_part}

abbrev pub moved_in : ℕ → ℕ → ℕ → ℕ → Option Note → Option Note
moved_in to count first s None = None
moved_in to count first s (Some n) = Some (moved_note to count first n)

pub record IsMoved (old : Notes) (heads : Heads) (a b : ℕ) (new : Notes) (s : ℕ) : Type 0 where
  pub here : InPart old b s
  pub in_new : InPart new a s
  pub rank : rank_at new s ≡ rank_at old s + (head_at heads a).count
  pub next : next_at new s ≡ Some (or_first (next_at old s) (head_at heads a).first)

pub is_moved : (old : Notes) (heads : Heads) (a b : ℕ) (new : Notes) (s : ℕ) → AreJoined old heads a b new → InPart old b s → IsMoved old heads a b new s
is_moved old heads a b new s j h =
    let n = part_is b (note_at old s) h in
    let e : note_at new s ≡ Some (moved_note a (head_at heads a).count (head_at heads a).first n.0) = j.moved s n.0 n.1 n.2 in
    record {
      here = h;
      in_new = part_of_some a (note_at new s) (moved_note a (head_at heads a).count (head_at heads a).first n.0) e refl;
      rank = ap rank_of e ∙ ap (λ o. rank_of o + (head_at heads a).count) (sym n.1);
      next = ap next_of e ∙ ap (λ o. Some (or_first (next_of o) (head_at heads a).first)) (sym n.1);
    }

-- a member of the part that is joined to, which stays as it is
pub record IsLeft (old : Notes) (a b : ℕ) (new : Notes) (s : ℕ) : Type 0 where
  pub here : InPart old a s
  pub same : note_at new s ≡ note_at old s
  pub in_new : InPart new a s

pub is_left : (old : Notes) (heads : Heads) (a b : ℕ) (new : Notes) (s : ℕ) → AreJoined old heads a b new → a ≢ b → InPart old a s → IsLeft old a b new s
is_left old heads a b new s j apart h =
    let e : note_at new s ≡ note_at old s = j.others s (not_part a b (note_at old s) h apart) in
    record { here = h; same = e; in_new = ap (in_part a) e ∙ h }

-- who is in the union
pub in_union : (old : Notes) (heads : Heads) (a b : ℕ) (new : Notes) (s : ℕ) → AreJoined old heads a b new → a ≢ b → InPart new a s → IsLeft old a b new s ⊎ IsMoved old heads a b new s
in_union old heads a b new s j apart h = elim (part_case b (note_at old s)) [
  | inl on ↦ inr (is_moved old heads a b new s j on)
  | inr off ↦ inl (is_left old heads a b new s j apart (sym (ap (in_part a) (j.others s off)) ∙ h))
]

or_false : (t : Bool) → (t || false) ≡ t
or_false true = refl
or_false false = refl

union_test : (old : Notes) (heads : Heads) (a b : ℕ) (new : Notes) → AreJoined old heads a b new → a ≢ b → (s : ℕ) → in_part a (note_at new s) ≡ (in_part a (note_at old s) || in_part b (note_at old s))
union_test old heads a b new j apart s = elim (part_case b (note_at old s)) [
  | inl on ↦ (is_moved old heads a b new s j on).in_new ∙ sym (rw (on, not_part b a (note_at old s) on (λ e. apart (sym e))) refl)
  | inr off ↦ ap (in_part a) (j.others s off) ∙ sym (rw off (or_false (in_part a (note_at old s))))
]

pub other_test : (old : Notes) (heads : Heads) (a b k : ℕ) (new : Notes) → AreJoined old heads a b new → k ≢ a → k ≢ b → (s : ℕ) → in_part k (note_at new s) ≡ in_part k (note_at old s)
other_test old heads a b k new j ka kb s = elim (part_case b (note_at old s)) [
  | inl on ↦ not_part a k (note_at new s) (is_moved old heads a b new s j on).in_new (λ e. ka (sym e)) ∙ sym (not_part b k (note_at old s) on (λ e. kb (sym e)))
  | inr off ↦ ap (in_part k) (j.others s off)
]

-- the part that joined has no members any more
pub joined_none : (old : Notes) (heads : Heads) (a b : ℕ) (new : Notes) → AreJoined old heads a b new → a ≢ b → (s : ℕ) → InPart new b s → ⊥
joined_none old heads a b new j apart s h = elim (part_case b (note_at old s)) [
  | inl on ↦ apart (one_part a b (note_at new s) (is_moved old heads a b new s j on).in_new h)
  | inr off ↦ false≢true (sym off ∙ sym (ap (in_part b) (j.others s off)) ∙ h)
]

-- the label of a union
pub record IsUnion (heads : Heads) (a b : ℕ) (label : Label) : Type 0 where
  pub of_one : (label.name ≡ name_of heads a) ⊎ (label.name ≡ name_of heads b)
  pub to_first : label.name ≤ name_of heads a
  pub to_second : label.name ≤ name_of heads b

ahead_union : (old : Notes) (heads : Heads) (a b : ℕ) (new : Notes) (o : Option ℕ) (r : ℕ) → IsPart old heads a → AreJoined old heads a b new → a ≢ b → ((u : ℕ) → o ≡ Some u → InPart old b u)
    → r < ahead old o → r + (head_at heads a).count < ahead new (Some (or_first o (head_at heads a).first))
ahead_union old heads a b new None r p j apart f lt = absurd (omega (arith, lt))
ahead_union old heads a b new (Some u) r p j apart f lt = let m = is_moved old heads a b new u j (f u refl) in let e = m.rank in omega (arith, lt, e)

-- whoever stood in the first part comes after all that joined it
ahead_left : (old : Notes) (heads : Heads) (a b : ℕ) (new : Notes) (o : Option ℕ) (r : ℕ) → IsPart old heads a → AreJoined old heads a b new → a ≢ b → ((u : ℕ) → o ≡ Some u → InPart old b u)
    → r ≤ rank_at old (head_at heads a).first → r < (head_at heads a).count → r < ahead new (Some (or_first o (head_at heads a).first))
ahead_left old heads a b new None r p j apart f le lt = let top = ap rank_of (is_left old heads a b new (head_at heads a).first j apart p.first).same in omega (arith, le, top)
ahead_left old heads a b new (Some u) r p j apart f le lt = let m = is_moved old heads a b new u j (f u refl) in let e = m.rank in omega (arith, lt, e)

-- where the thread goes on
goes_on : (old : Notes) (heads : Heads) (a b : ℕ) (new : Notes) (s t : ℕ) (o : Option ℕ) → IsPart old heads a → IsPart old heads b → AreJoined old heads a b new → a ≢ b → InPart old b s → next_at old s ≡ o → or_first o (head_at heads a).first ≡ t
    → InPart new a t × (rank_at new t < rank_at old s + (head_at heads a).count)
goes_on old heads a b new s t None p q j apart h e f =
    let top = is_left old heads a b new (head_at heads a).first j apart p.first in
    let r = ap rank_of top.same in let lt = p.below (head_at heads a).first p.first in
    (ap (λ u. in_part a (note_at new u)) (sym f) ∙ top.in_new, let here : rank_at new t ≡ rank_at new (head_at heads a).first = ap (rank_at new) (sym f) in omega (arith, r, lt, here))
goes_on old heads a b new s t (Some u) p q j apart h e f =
    let old_next = q.next s u h e in
    let m = is_moved old heads a b new u j old_next.0 in
    let r = m.rank in let lt = old_next.1 in
    (ap (λ u. in_part a (note_at new u)) (sym f) ∙ m.in_new, let here : rank_at new t ≡ rank_at new u = ap (rank_at new) (sym f) in omega (arith, r, lt, here))

pub union_is_part : (old : Notes) (heads : Heads) (a b : ℕ) (new : Notes) (also : Heads) (label : Label) → IsPart old heads a → IsPart old heads b → a ≢ b → AreJoined old heads a b new → head_at also a ≡ joined_head heads a b label → IsPart new also a
union_is_part old heads a b new also label p q apart j head =
    let first : (head_at also a).first ≡ (head_at heads b).first = ap (λ (h : Head). h.first) head in
    let count : (head_at also a).count ≡ (head_at heads a).count + (head_at heads b).count = ap (λ (h : Head). h.count) head in
    let left : (s : ℕ) → InPart old a s → IsLeft old a b new s = λ s h. is_left old heads a b new s j apart h in
    let moved : (s : ℕ) → InPart old b s → IsMoved old heads a b new s = λ s h. is_moved old heads a b new s j h in
    let which : (s : ℕ) → InPart new a s → IsLeft old a b new s ⊎ IsMoved old heads a b new s = λ s h. in_union old heads a b new s j apart h in
    let top = moved (head_at heads b).first q.first in
    let top_rank = top.rank in
    let top_same : rank_at new (head_at also a).first ≡ rank_at new (head_at heads b).first = ap (rank_at new) first in
    record {
      led = (left a p.led).in_new;
      end = ap rank_of (left a p.led).same ∙ p.end;
      first = ap (λ n. in_part a (note_at new n)) first ∙ top.in_new;
      last = λ s h. elim (which s h) [
        | inl l ↦ let lt = p.below s l.here in let r = ap rank_of l.same in omega (arith, lt, r, top_rank, top_same)
        | inr m ↦ let le = q.last s m.here in let r = m.rank in omega (arith, le, r, top_rank, top_same)
      ];
      next = λ s t h e. elim (which s h) [
        | inl l ↦ let o = p.next s t l.here (sym (ap next_of l.same) ∙ e) in
            let r = ap rank_of l.same in let g = left t o.0 in let w = ap rank_of g.same in let lt = o.1 in
            (g.in_new, omega (arith, r, w, lt))
        | inr m ↦ let f : Some (or_first (next_at old s) (head_at heads a).first) ≡ Some t = sym m.next ∙ e in
            let o = goes_on old heads a b new s t (next_at old s) p q j apart m.here refl cc in
            let r = m.rank in let lt = o.1 in
            (o.0, omega (arith, r, lt))
      ];
      nearest = λ s t h g lt. elim (which s h) [
        | inl l ↦ elim (which t g) [
          | inl l2 ↦ let r = ap rank_of l.same in let w = ap rank_of l2.same in
              let near = p.nearest s t l.here l2.here (omega (arith, r, w, lt)) in
              let on : ahead new (next_at new s) ≡ ahead old (next_at old s) = ap (λ o. ahead new (next_of o)) l.same ∙ ahead_same old new (next_at old s) (λ v e. ap rank_of (left v (p.next s v l.here e).0).same) in
              omega (arith, w, near, on)
          | inr m2 ↦ absurd (let r = ap rank_of l.same in let w = m2.rank in let small = p.below s l.here in omega (arith, r, w, small, lt))
        ]
        | inr m ↦ elim (which t g) [
          | inl l2 ↦ let w = ap rank_of l2.same in
              let on : ahead new (next_at new s) ≡ ahead new (Some (or_first (next_at old s) (head_at heads a).first)) = ap (ahead new) m.next in
              let near = ahead_left old heads a b new (next_at old s) (rank_at old t) p j apart (λ v e. (q.next s v m.here e).0) (p.last t l2.here) (p.below t l2.here) in
              omega (arith, w, near, on)
          | inr m2 ↦ let r = m.rank in let w = m2.rank in
              let on : ahead new (next_at new s) ≡ ahead new (Some (or_first (next_at old s) (head_at heads a).first)) = ap (ahead new) m.next in
              let near = ahead_union old heads a b new (next_at old s) (rank_at old t) p j apart (λ v e. (q.next s v m.here e).0) (q.nearest s t m.here m2.here (omega (arith, r, w, lt))) in
              omega (arith, w, near, on)
        ]
      ];
      apart = λ s t h g e. elim (which s h) [
        | inl l ↦ elim (which t g) [
          | inl l2 ↦ p.apart s t l.here l2.here (sym (ap rank_of l.same) ∙ e ∙ ap rank_of l2.same)
          | inr m2 ↦ absurd (let r = ap rank_of l.same in let w = m2.rank in let small = p.below s l.here in omega (arith, r, w, small, e))
        ]
        | inr m ↦ elim (which t g) [
          | inl l2 ↦ absurd (let r = m.rank in let w = ap rank_of l2.same in let small = p.below t l2.here in omega (arith, r, w, small, e))
          | inr m2 ↦ let r = m.rank in let w = m2.rank in q.apart s t m.here m2.here (omega (arith, r, w, e))
        ]
      ];
      below = λ s h. elim (which s h) [
        | inl l ↦ let r = ap rank_of l.same in let lt = p.below s l.here in omega (arith, r, lt, count)
        | inr m ↦ let r = m.rank in let lt = q.below s m.here in omega (arith, r, lt, count)
      ];
      size = let sum = count_sum a b a old new apart j.size (union_test old heads a b new j apart) in let one = p.size in let two = q.size in omega (arith, sum, one, two, count);
    }

pub head_set : (heads : Heads) (a : ℕ) (h : Head) → a < length heads → head_at (slice_set heads a h) a ≡ h
head_set heads a h lt = get_or-set_same heads a h no_head lt

pub head_kept : (heads : Heads) (a k : ℕ) (h : Head) → k ≢ a → head_at (slice_set heads a h) k ≡ head_at heads k
head_kept heads a k h away = get_or-set_other heads a k h no_head away

pub joined_packed : (old : Notes) (heads : Heads) (a b : ℕ) (new : Notes) (label : Label) → IsPacked old heads → InPart old a a → InPart old b b → a ≢ b → AreJoined old heads a b new
    → IsPacked new (slice_set heads a (joined_head heads a b label))
joined_packed old heads a b new label p h g apart j =
    let lt : a < length heads = let l = short old a a h in let z = p.sizes in omega (arith, l, z) in
    record {
      sizes = length-set heads a (joined_head heads a b label) ∙ p.sizes ∙ sym j.size;
      parts = λ k s here. elim (cases_eq k a) [
        | inl e ↦ rw e (union_is_part old heads a b new (slice_set heads a (joined_head heads a b label)) label (p.parts a a h) (p.parts b b g) apart j (head_set heads a (joined_head heads a b label) lt))
        | inr away ↦
            let kb : k ≢ b = λ e. joined_none old heads a b new j apart s (ap (λ m. in_part m (note_at new s)) (sym e) ∙ here) in
            let test = other_test old heads a b k new j away kb in
            part_stays old new heads (slice_set heads a (joined_head heads a b label)) k (p.parts k s (sym (test s) ∙ here)) test
            (λ t m. j.others t (not_part k b (note_at old t) m kb)) (head_kept heads a k (joined_head heads a b label) away)
      ];
    }

-- what the labels are then
pub label_away : (heads : Heads) (a : ℕ) (h : Head) (o : Option Note) → in_part a o ≡ false → label_in (slice_set heads a h) o ≡ label_in heads o
label_away heads a h None off = refl
label_away heads a h (Some n) off = ap (λ (x : Head). Some x.label) (head_kept heads a n.part h (λ e. false≢true (sym off ∙ part_some a n e)))

pub joined_labels : (old : Notes) (heads : Heads) (a b v w : ℕ) (new : Notes) (label : Label) → AreNamed old heads → InPart old a v → InPart old b w → a ≢ b → a < length heads → AreJoined old heads a b new
    → labels_of new (slice_set heads a (joined_head heads a b label)) ≡ relabelled (name_of heads a) (name_of heads b) label (labels_of old heads)
joined_labels old heads a b v w new label p h g apart lt j =
    let also : Heads = slice_set heads a (joined_head heads a b label) in
    let head : head_at also a ≡ joined_head heads a b label = head_set heads a (joined_head heads a b label) lt in
    same_labels (labels_of new also) (relabelled (name_of heads a) (name_of heads b) label (labels_of old heads))
    (length-map new (label_in also) ∙ j.size ∙ sym (length-map old (label_in heads)) ∙ sym (length-map (labels_of old heads) (relabel (name_of heads a) (name_of heads b) label)))
    (λ s.
    let right : label_at (relabelled (name_of heads a) (name_of heads b) label (labels_of old heads)) s ≡ cond (in_part a (note_at old s) || in_part b (note_at old s)) (Some label) (label_in heads (note_at old s)) =
    relabel_at (name_of heads a) (name_of heads b) label (labels_of old heads) s ∙ ap (relabel (name_of heads a) (name_of heads b) label) (labels_at heads old s)
    ∙ ap (λ t. cond (t || is_in (label_in heads (note_at old s)) (name_of heads b)) (Some label) (label_in heads (note_at old s))) (in_name old heads a v s p h)
    ∙ ap (λ t. cond (in_part a (note_at old s) || t) (Some label) (label_in heads (note_at old s))) (in_name old heads b w s p g) in
    labels_at also new s ∙ elim (part_case a (note_at new s)) [
      | inl on ↦ label_of_part also a (note_at new s) on ∙ ap (λ (x : Head). Some x.label) head ∙ sym (right ∙ rw (sym (union_test old heads a b new j apart s) ∙ on) refl)
      | inr off ↦ label_away heads a (joined_head heads a b label) (note_at new s) off
          ∙ ap (label_in heads) (j.others s (elim (part_case b (note_at old s)) [ inl on ↦ absurd (false≢true (sym off ∙ (is_moved old heads a b new s j on).in_new)) | inr away ↦ away ]))
          ∙ sym (right ∙ rw (sym (union_test old heads a b new j apart s) ∙ off) refl)
    ])

-- ---- the label of a union, and another label

pub union_is : (heads : Heads) (a b : ℕ) → IsUnion heads a b (union_label (head_at heads a).label (head_at heads b).label)
union_is heads a b = let u = union_low (head_at heads a).label (head_at heads b).label in record { of_one = u.0; to_first = u.1; to_second = u.2 }

pub union_back : (heads : Heads) (a b : ℕ) (label : Label) → IsUnion heads a b label → IsUnion heads b a label
union_back heads a b label u = record { of_one = elim u.of_one [ inl e ↦ inr e | inr e ↦ inl e ]; to_first = u.to_second; to_second = u.to_first }

or_back : (p q : Bool) → (p || q) ≡ (q || p)
or_back true true = refl
or_back true false = refl
or_back false true = refl
or_back false false = refl

pub relabelled_back : (a b : ℕ) (to : Label) (labels : Labels) → relabelled a b to labels ≡ relabelled b a to labels
relabelled_back a b to [] = refl
relabelled_back a b to (o ∷ labels) =
    let front : relabel a b to o ≡ relabel b a to o = ap (λ t. cond t (Some to) o) (or_back (is_in o a) (is_in o b)) in
    let rest : relabelled a b to labels ≡ relabelled b a to labels = relabelled_back a b to labels in
    rw (front, rest) refl

pub labelled_packed : (notes : Notes) (heads : Heads) (k : ℕ) (label : Label) → IsPacked notes heads → InPart notes k k → IsPacked notes (slice_set heads k (labelled_head heads k label))
labelled_packed notes heads k label p h =
    let lt : k < length heads = let l = short notes k k h in let z = p.sizes in omega (arith, l, z) in
    let head : head_at (slice_set heads k (labelled_head heads k label)) k ≡ labelled_head heads k label = head_set heads k (labelled_head heads k label) lt in
    record {
      sizes = length-set heads k (labelled_head heads k label) ∙ p.sizes;
      parts = λ m s here. elim (cases_eq m k) [
        | inl same ↦ rw same (part_kept notes notes heads (slice_set heads k (labelled_head heads k label)) k (p.parts k k h) (λ t. refl) (λ t q. refl)
            (ap (λ (x : Head). x.first) head) (ap (λ (x : Head). x.count) head))
        | inr away ↦ part_stays notes notes heads (slice_set heads k (labelled_head heads k label)) m (p.parts m s here) (λ t. refl) (λ t q. refl) (head_kept heads k m (labelled_head heads k label) away)
      ];
    }

pub labelled_labels : (notes : Notes) (heads : Heads) (k v : ℕ) (label : Label) → AreNamed notes heads → InPart notes k v → k < length heads
    → labels_of notes (slice_set heads k (labelled_head heads k label)) ≡ relabelled (name_of heads k) (name_of heads k) label (labels_of notes heads)
labelled_labels notes heads k v label p h lt =
    let also : Heads = slice_set heads k (labelled_head heads k label) in
    let head : head_at also k ≡ labelled_head heads k label = head_set heads k (labelled_head heads k label) lt in
    same_labels (labels_of notes also) (relabelled (name_of heads k) (name_of heads k) label (labels_of notes heads))
    (length-map notes (label_in also) ∙ sym (length-map notes (label_in heads)) ∙ sym (length-map (labels_of notes heads) (relabel (name_of heads k) (name_of heads k) label)))
    (λ s.
    let right : label_at (relabelled (name_of heads k) (name_of heads k) label (labels_of notes heads)) s ≡ cond (in_part k (note_at notes s) || in_part k (note_at notes s)) (Some label) (label_in heads (note_at notes s)) =
    relabel_at (name_of heads k) (name_of heads k) label (labels_of notes heads) s ∙ ap (relabel (name_of heads k) (name_of heads k) label) (labels_at heads notes s)
    ∙ ap (λ t. cond (t || t) (Some label) (label_in heads (note_at notes s))) (in_name notes heads k v s p h) in
    labels_at also notes s ∙ elim (part_case k (note_at notes s)) [
      | inl on ↦ label_of_part also k (note_at notes s) on ∙ ap (λ (x : Head). Some x.label) head ∙ sym (right ∙ rw on refl)
      | inr off ↦ label_away heads k (labelled_head heads k label) (note_at notes s) off ∙ sym (right ∙ rw off refl)
    ])

-- two movers of one part
pub one_union : (heads : Heads) (x y : ℕ) → x ≡ y → (union_label (head_at heads x).label (head_at heads y).label).name ≡ name_of heads x
one_union heads x y e = let u = (union_is heads x y).of_one in elim u [ inl k ↦ k | inr k ↦ k ∙ ap (name_of heads) (sym e) ]

-- two movers, by their parts
pub merged_movers : (notes : Notes) (heads : Heads) (a b x y : ℕ) → part_in (note_at notes a) ≡ Some x → part_in (note_at notes b) ≡ Some y
    → merged (labels_of notes heads) a b ≡ relabelled (name_of heads x) (name_of heads y) (union_label (head_at heads x).label (head_at heads y).label) (labels_of notes heads)
unfolding merged
merged_movers notes heads a b x y e f =
    let first : label_at (labels_of notes heads) a ≡ Some (head_at heads x).label = labels_at heads notes a ∙ label_of_part heads x (note_at notes a) (in_of_part (note_at notes a) x e) in
    let second : label_at (labels_of notes heads) b ≡ Some (head_at heads y).label = labels_at heads notes b ∙ label_of_part heads y (note_at notes b) (in_of_part (note_at notes b) y f) in
    ap (λ o. merged_by o (label_at (labels_of notes heads) b) (labels_of notes heads)) first ∙ ap (λ o. merged_by (Some (head_at heads x).label) o (labels_of notes heads)) second
