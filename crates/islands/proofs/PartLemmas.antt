-- Lemmas on parts: who is in one, how many, what a walk along a thread has passed, and which labels it means.
use Rattle.std.proofs.Common.{◌≡◌, ◌≢◌, ℕ, zero, suc, ◌+◌, ◌<◌, ◌≤◌, [], ◌∷◌, length, Option, Some, None, Bool, true, false, ◌⊎◌, ◌||◌, ◌&&◌, inl, inr, arith, refl, sym, ap, ◌∙◌, slice_set, get_or-set_same, get_or-set_other, eq-eqb}
use Rattle.std.specs.Prelude.{cond, ◌==◌}
use Rattle.std.proofs.lemmas.Bool.{cases_lt, cases_eq, eqb-true, false≢true, le-leb, lt-leb, ne_eqb}
use Rattle.std.proofs.lemmas.List.{length-set}
use Rattle.std.proofs.lemmas.List.Sums.{sum_by-cons, count_by-le-length}
use Rattle.islands.specs.declared.threads.Note.{Note}
use Rattle.islands.specs.declared.threads.Head.{Head}
use Rattle.islands.specs.declared.label.Label.{Label}
use Rattle.islands.specs.Labels.{label_at, is_in}
use Rattle.islands.specs.Partition.{IsPartition}
use Rattle.islands.specs.Packed.{Notes, note_at, Heads, head_at, in_part, InPart, rank_of, next_of, rank_at, next_at, part_in, name_of, label_in, labels_of, counted, ahead, IsPart, AreNamed, has_passed}

pub note_past : (notes : Notes) (s : ℕ) → length notes ≤ s → note_at notes s ≡ None
note_past [] s h = refl
note_past (o ∷ notes) zero h = absurd (omega arith)
note_past (o ∷ notes) (suc s) h = note_past notes s (omega arith)

pub part_is : (k : ℕ) (o : Option Note) → in_part k o ≡ true → (n : Note) × (o ≡ Some n) × (n.part ≡ k)
part_is k None h = absurd (false≢true h)
part_is k (Some n) h = (n, refl, eqb-true n.part k h)

pub part_some : (k : ℕ) (n : Note) → n.part ≡ k → in_part k (Some n) ≡ true
part_some k n h = eq-eqb n.part k h

pub part_of_some : (k : ℕ) (o : Option Note) (n : Note) → o ≡ Some n → n.part ≡ k → in_part k o ≡ true
part_of_some k o n e h = ap (in_part k) e ∙ part_some k n h

pub part_case : (k : ℕ) (o : Option Note) → (in_part k o ≡ true) ⊎ (in_part k o ≡ false)
part_case k o = elim (in_part k o) as (λ t. (t ≡ true) ⊎ (t ≡ false)) [ true ↦ inl refl | false ↦ inr refl ]

pub one_part : (k j : ℕ) (o : Option Note) → in_part k o ≡ true → in_part j o ≡ true → k ≡ j
one_part k j None h g = absurd (false≢true h)
one_part k j (Some n) h g = sym (eqb-true n.part k h) ∙ eqb-true n.part j g

pub not_part : (k j : ℕ) (o : Option Note) → in_part k o ≡ true → k ≢ j → in_part j o ≡ false
not_part k j o h apart = elim (part_case j o) [ inl g ↦ absurd (apart (one_part k j o h g)) | inr g ↦ g ]

pub short : (notes : Notes) (k s : ℕ) → InPart notes k s → s < length notes
short notes k s h = elim (cases_lt s (length notes)) [
  | inl lt ↦ lt
  | inr le ↦ absurd (false≢true (sym (ap (in_part k) (note_past notes s le)) ∙ h))
]

-- ---- how many

abbrev pub bit : Bool → ℕ
bit true = 1
bit false = 0

cond_bit : (t : Bool) → cond t 1 0 ≡ bit t
cond_bit true = refl
cond_bit false = refl

pub count_cons : (k : ℕ) (o : Option Note) (notes : Notes) → counted k (o ∷ notes) ≡ bit (in_part k o) + counted k notes
count_cons k o notes = sum_by-cons (λ x. cond (in_part k x) 1 0) o notes ∙ ap (λ b. b + counted k notes) (cond_bit (in_part k o))

pub count_same : (k j : ℕ) (xs ys : Notes) → ((s : ℕ) → in_part k (note_at xs s) ≡ in_part j (note_at ys s)) → counted k xs ≡ counted j ys
count_same k j [] [] f = refl
count_same k j [] (y ∷ ys) f =
    let rest : counted k [] ≡ counted j ys = count_same k j [] ys (λ s. f (suc s)) in
    let front : bit (in_part k None) ≡ bit (in_part j y) = ap bit (f 0) in
    omega (arith, rest, front, count_cons j y ys)
count_same k j (x ∷ xs) [] f =
    let rest : counted k xs ≡ counted j [] = count_same k j xs [] (λ s. f (suc s)) in
    let front : bit (in_part k x) ≡ bit (in_part j None) = ap bit (f 0) in
    omega (arith, rest, front, count_cons k x xs)
count_same k j (x ∷ xs) (y ∷ ys) f =
    let rest : counted k xs ≡ counted j ys = count_same k j xs ys (λ s. f (suc s)) in
    let front : bit (in_part k x) ≡ bit (in_part j y) = ap bit (f 0) in
    omega (arith, rest, front, count_cons k x xs, count_cons j y ys)

either_one : (p q : Bool) → (p ≡ true → q ≡ true → ⊥) → bit (p || q) ≡ bit p + bit q
either_one true true h = absurd (h refl refl)
either_one true false h = refl
either_one false true h = refl
either_one false false h = refl

-- one part of what were two
pub count_sum : (a b k : ℕ) (xs ys : Notes) → a ≢ b → length ys ≡ length xs → ((s : ℕ) → in_part k (note_at ys s) ≡ (in_part a (note_at xs s) || in_part b (note_at xs s))) → counted k ys ≡ counted a xs + counted b xs
count_sum a b k [] [] apart size f = refl
count_sum a b k [] (y ∷ ys) apart size f = absurd (omega (arith, size))
count_sum a b k (x ∷ xs) [] apart size f = absurd (omega (arith, size))
count_sum a b k (x ∷ xs) (y ∷ ys) apart size f =
    let rest : counted k ys ≡ counted a xs + counted b xs = count_sum a b k xs ys apart (omega (arith, size)) (λ s. f (suc s)) in
    let front : bit (in_part k y) ≡ bit (in_part a x || in_part b x) = ap bit (f 0) in
    let both : bit (in_part a x || in_part b x) ≡ bit (in_part a x) + bit (in_part b x) = either_one (in_part a x) (in_part b x) (λ h g. apart (one_part a b x h g)) in
    omega (arith, rest, front, both, count_cons k y ys, count_cons a x xs, count_cons b x xs)

pub count_few : (k : ℕ) (notes : Notes) → counted k notes ≤ length notes
count_few k notes = count_by-le-length (in_part k) notes

-- ---- parts that stay as they are

pub ahead_same : (old new : Notes) (o : Option ℕ) → ((t : ℕ) → o ≡ Some t → rank_at new t ≡ rank_at old t) → ahead new o ≡ ahead old o
ahead_same old new None f = refl
ahead_same old new (Some t) f = ap suc (f t refl)

pub part_kept : (old new : Notes) (heads also : Heads) (k : ℕ) → IsPart old heads k → ((s : ℕ) → in_part k (note_at new s) ≡ in_part k (note_at old s)) → ((s : ℕ) → InPart old k s → note_at new s ≡ note_at old s)
    → (head_at also k).first ≡ (head_at heads k).first → (head_at also k).count ≡ (head_at heads k).count → IsPart new also k
part_kept old new heads also k p same kept first count =
    let back : (s : ℕ) → InPart new k s → InPart old k s = λ s h. sym (same s) ∙ h in
    let rank : (s : ℕ) → InPart old k s → rank_at new s ≡ rank_at old s = λ s h. ap rank_of (kept s h) in
    let top : rank_at new (head_at also k).first ≡ rank_at old (head_at heads k).first = ap (rank_at new) first ∙ rank (head_at heads k).first p.first in
    record {
      led = same k ∙ p.led;
      end = rank k p.led ∙ p.end;
      first = ap (λ n. in_part k (note_at new n)) first ∙ same (head_at heads k).first ∙ p.first;
      last = λ s h. let r = rank s (back s h) in let l = p.last s (back s h) in omega (arith, r, l, top);
      next = λ s t h e.
          let m = p.next s t (back s h) (sym (ap next_of (kept s (back s h))) ∙ e) in
          let r = rank s (back s h) in let q = rank t m.0 in let lt = m.1 in
          (same t ∙ m.0, omega (arith, r, q, lt));
      nearest = λ s j h g lt.
          let r = rank s (back s h) in let q = rank j (back j g) in
          let near = p.nearest s j (back s h) (back j g) (omega (arith, r, q, lt)) in
          let on : ahead new (next_at new s) ≡ ahead old (next_at old s) = ap (λ o. ahead new (next_of o)) (kept s (back s h)) ∙ ahead_same old new (next_at old s) (λ t e. rank t (p.next s t (back s h) e).0) in
          omega (arith, q, near, on);
      apart = λ s j h g e. p.apart s j (back s h) (back j g) (sym (rank s (back s h)) ∙ e ∙ rank j (back j g));
      below = λ s h. let r = rank s (back s h) in let l = p.below s (back s h) in omega (arith, r, l, count);
      size = count ∙ p.size ∙ sym (count_same k k new old same);
    }

pub part_stays : (old new : Notes) (heads also : Heads) (k : ℕ) → IsPart old heads k → ((s : ℕ) → in_part k (note_at new s) ≡ in_part k (note_at old s)) → ((s : ℕ) → InPart old k s → note_at new s ≡ note_at old s) → head_at also k ≡ head_at heads k → IsPart new also k
part_stays old new heads also k p same kept head = part_kept old new heads also k p same kept (ap (λ (h : Head). h.first) head) (ap (λ (h : Head). h.count) head)

-- ---- a walk along a thread

and_false : (t : Bool) → (t && false) ≡ false
and_false true = refl
and_false false = refl

pub in_passed : (k b : ℕ) (o : Option Note) → in_part k o ≡ true → b ≤ rank_of o → has_passed k b o ≡ true
in_passed k b None h g = absurd (false≢true h)
in_passed k b (Some n) h g = rw (h, le-leb b n.rank g) refl

pub out_passed : (k b : ℕ) (o : Option Note) → in_part k o ≡ false → has_passed k b o ≡ false
out_passed k b None h = refl
out_passed k b (Some n) h = rw h refl

pub low_passed : (k b : ℕ) (o : Option Note) → rank_of o < b → has_passed k b o ≡ false
low_passed k b None h = refl
low_passed k b (Some n) h = rw (lt-leb b n.rank h) (and_false (n.part == k))

ahead_of : (old : Notes) (o : Option ℕ) (r : ℕ) → ((t : ℕ) → o ≡ Some t → rank_at old t < r) → ahead old o ≤ r
ahead_of old None r f = omega arith
ahead_of old (Some t) r f = f t refl

pub goes_down : (old : Notes) (heads : Heads) (k t : ℕ) → IsPart old heads k → InPart old k t → ahead old (next_at old t) ≤ rank_at old t
goes_down old heads k t p h = ahead_of old (next_at old t) (rank_at old t) (λ u e. (p.next t u h e).1)

-- with one step the walk has passed one member more
same_passed : (old : Notes) (heads : Heads) (k t s : ℕ) → IsPart old heads k → InPart old k t → s ≢ t → has_passed k (suc (rank_at old t)) (note_at old s) ≡ has_passed k (ahead old (next_at old t)) (note_at old s)
same_passed old heads k t s p h away = elim (part_case k (note_at old s)) [
  | inr off ↦ out_passed k (suc (rank_at old t)) (note_at old s) off ∙ sym (out_passed k (ahead old (next_at old t)) (note_at old s) off)
  | inl on ↦ elim (cases_lt (rank_at old s) (rank_at old t)) [
    | inl lt ↦ low_passed k (suc (rank_at old t)) (note_at old s) (omega (arith, lt)) ∙ sym (low_passed k (ahead old (next_at old t)) (note_at old s) (p.nearest t s h on lt))
    | inr le ↦ let more : rank_at old s ≢ rank_at old t = λ e. away (p.apart s t on h e) in
        let down = goes_down old heads k t p h in
        in_passed k (suc (rank_at old t)) (note_at old s) on (omega (arith, le, more)) ∙ sym (in_passed k (ahead old (next_at old t)) (note_at old s) on (omega (arith, le, down)))
  ]
]

-- the members that a walk has passed were changed, the others are as they were
pub record IsWalked (old : Notes) (k : ℕ) (at : Option ℕ) (F : ℕ → Option Note → Option Note) (now : Notes) : Type 0 where
  pub size : length now ≡ length old
  pub here : (t : ℕ) → at ≡ Some t → InPart old k t
  pub notes : (s : ℕ) → note_at now s ≡ cond (has_passed k (ahead old at) (note_at old s)) (F s (note_at old s)) (note_at old s)

pub walk_starts : (old : Notes) (heads : Heads) (k : ℕ) (F : ℕ → Option Note → Option Note) → IsPart old heads k → IsWalked old k (Some (head_at heads k).first) F old
walk_starts old heads k F p = record {
  size = refl;
  here = λ t e. let same : (head_at heads k).first ≡ t = cc in ap (λ n. in_part k (note_at old n)) (sym same) ∙ p.first;
  notes = λ s. elim (part_case k (note_at old s)) [
    | inl on ↦ let l = p.last s on in rw (low_passed k (suc (rank_at old (head_at heads k).first)) (note_at old s) (omega (arith, l))) refl
    | inr off ↦ rw (out_passed k (suc (rank_at old (head_at heads k).first)) (note_at old s) off) refl
  ];
}

pub walk_here : (old : Notes) (k t : ℕ) (at : Option ℕ) (F : ℕ → Option Note → Option Note) (now : Notes) → IsWalked old k at F now → at ≡ Some t → note_at now t ≡ note_at old t
walk_here old k t at F now w e =
    let bound : ahead old at ≡ suc (rank_at old t) = ap (ahead old) e in
    w.notes t ∙ rw (low_passed k (ahead old at) (note_at old t) (omega (arith, bound))) refl

pub walk_goes : (old : Notes) (heads : Heads) (k t : ℕ) (at later : Option ℕ) (F : ℕ → Option Note → Option Note) (now : Notes) (o : Option Note) → IsPart old heads k → IsWalked old k at F now → at ≡ Some t → later ≡ next_at old t → o ≡ F t (note_at old t) → IsWalked old k later F (slice_set now t o)
walk_goes old heads k t at later F now o p w e next changed =
    let here : InPart old k t = w.here t e in
    let lt : t < length now = let l = short old k t here in let z = w.size in omega (arith, l, z) in
    let z = w.size in
    record {
      size = length-set now t o ∙ z;
      here = λ u f. (p.next t u here (sym next ∙ f)).0;
      notes = λ s. elim (cases_eq s t) [
        | inl m ↦ rw m (get_or-set_same now t o None lt ∙ changed ∙ (let down = goes_down old heads k t p here in let bound : ahead old later ≡ ahead old (next_at old t) = ap (ahead old) next in sym (rw (in_passed k (ahead old later) (note_at old t) here (omega (arith, down, bound))) refl)))
        | inr m ↦ get_or-set_other now t s o None m ∙ w.notes s ∙ ap (λ b. cond b (F s (note_at old s)) (note_at old s))
            (ap (λ b. has_passed k b (note_at old s)) (ap (ahead old) e) ∙ same_passed old heads k t s p here m ∙ ap (λ b. has_passed k b (note_at old s)) (ap (ahead old) (sym next)))
      ];
    }

-- all members were changed, and no other
pub walk_ends : (old : Notes) (k : ℕ) (at : Option ℕ) (F : ℕ → Option Note → Option Note) (now : Notes) (s : ℕ) → IsWalked old k at F now → at ≡ None → InPart old k s → note_at now s ≡ F s (note_at old s)
walk_ends old k at F now s w e h = let bound : ahead old at ≡ 0 = ap (ahead old) e in w.notes s ∙ rw (in_passed k (ahead old at) (note_at old s) h (omega (arith, bound))) refl

pub walk_spares : (old : Notes) (k : ℕ) (at : Option ℕ) (F : ℕ → Option Note → Option Note) (now : Notes) (s : ℕ) → IsWalked old k at F now → in_part k (note_at old s) ≡ false → note_at now s ≡ note_at old s
walk_spares old k at F now s w h = w.notes s ∙ rw (out_passed k (ahead old at) (note_at old s) h) refl

-- ---- the labels

pub labels_at : (heads : Heads) (notes : Notes) (s : ℕ) → label_at (labels_of notes heads) s ≡ label_in heads (note_at notes s)
labels_at heads [] s = refl
labels_at heads (o ∷ notes) zero = refl
labels_at heads (o ∷ notes) (suc s) = labels_at heads notes s

pub label_of_part : (heads : Heads) (k : ℕ) (o : Option Note) → in_part k o ≡ true → label_in heads o ≡ Some (head_at heads k).label
label_of_part heads k None h = absurd (false≢true h)
label_of_part heads k (Some n) h = ap (λ m. Some (head_at heads m).label) (eqb-true n.part k h)

-- two parts have different names
pub one_name : (notes : Notes) (heads : Heads) (k j s t : ℕ) → AreNamed notes heads → InPart notes k s → InPart notes j t → name_of heads k ≡ name_of heads j → k ≡ j
one_name notes heads k j s t p h g e =
    let there : InPart notes j (name_of heads j) = (p j t g).0 in
    let here : InPart notes k (name_of heads j) = ap (λ n. in_part k (note_at notes n)) (sym e) ∙ (p k s h).0 in
    one_part k j (note_at notes (name_of heads j)) here there

in_name_of : (notes : Notes) (heads : Heads) (k s t : ℕ) (o : Option Note) → AreNamed notes heads → InPart notes k s → note_at notes t ≡ o → is_in (label_in heads o) (name_of heads k) ≡ in_part k o
in_name_of notes heads k s t None p h e = refl
in_name_of notes heads k s t (Some n) p h e = elim (cases_eq n.part k) [
  | inl m ↦ ap (λ j. name_of heads j == name_of heads k) m ∙ eq-eqb (name_of heads k) (name_of heads k) refl ∙ sym (eq-eqb n.part k m)
  | inr m ↦ let there : InPart notes n.part t = part_of_some n.part (note_at notes t) n e refl in
      let away : name_of heads n.part ≢ name_of heads k = λ q. m (one_name notes heads n.part k t s p there h q) in
      ne_eqb (name_of heads n.part) (name_of heads k) away ∙ sym (ne_eqb n.part k m)
]

-- whoever has the part's name is in the part
pub in_name : (notes : Notes) (heads : Heads) (k s t : ℕ) → AreNamed notes heads → InPart notes k s → is_in (label_in heads (note_at notes t)) (name_of heads k) ≡ in_part k (note_at notes t)
in_name notes heads k s t p h = in_name_of notes heads k s t (note_at notes t) p h refl

label_case : (heads : Heads) (o : Option Note) (l : Label) → label_in heads o ≡ Some l → (n : Note) × (o ≡ Some n) × (l ≡ (head_at heads n.part).label)
label_case heads None l e = let no : None ≡ Some l = e in absurd (cc)
label_case heads (Some n) l e = (n, refl, cc)

-- the labels are a partition
pub named_partition : (notes : Notes) (heads : Heads) → AreNamed notes heads → IsPartition (labels_of notes heads)
named_partition notes heads p = record {
  low = λ s l e. let m = label_case heads (note_at notes s) l (sym (labels_at heads notes s) ∙ e) in
      let there : InPart notes m.0.part s = part_of_some m.0.part (note_at notes s) m.0 m.1 refl in
      let name : l.name ≡ name_of heads m.0.part = ap (λ (x : Label). x.name) m.2 in
      let le = (p m.0.part s there).1 s there in omega (arith, le, name);
  named = λ s l e. let m = label_case heads (note_at notes s) l (sym (labels_at heads notes s) ∙ e) in
      let there : InPart notes m.0.part s = part_of_some m.0.part (note_at notes s) m.0 m.1 refl in
      let name : l.name ≡ name_of heads m.0.part = ap (λ (x : Label). x.name) m.2 in
      ap (label_at (labels_of notes heads)) name ∙ labels_at heads notes (name_of heads m.0.part) ∙ label_of_part heads m.0.part (note_at notes (name_of heads m.0.part)) (p m.0.part s there).0 ∙ ap (λ x. Some x) (sym m.2);
}

pub in_of_part : (o : Option Note) (k : ℕ) → part_in o ≡ Some k → in_part k o ≡ true
in_of_part None k e = let no : None ≡ Some k = e in absurd (cc)
in_of_part (Some n) k e = part_some k n cc
