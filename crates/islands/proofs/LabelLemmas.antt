-- Lemmas on labels: what a relabelling leaves, and that it keeps the partition.
use Rattle.std.proofs.Common.{◌≡◌, ◌≢◌, ℕ, zero, suc, ◌+◌, ◌<◌, ◌≤◌, [], ◌∷◌, ◌++◌, length, get_or, Option, Some, None, Bool, true, false, ◌⊎◌, ◌||◌, inl, inr, arith, refl, sym, ap, ◌∙◌, slice_set, get_or-set_same, get_or-set_other, eq-eqb}
use Rattle.std.specs.Prelude.{min, replicate, cond, ◌-◌}
use Rattle.std.proofs.lemmas.Grind.{common_steps}
use Rattle.std.proofs.lemmas.Bool.{cases_lt, cases_eq, eqb-true, false≢true}
use Rattle.std.proofs.lemmas.List.Sums.{passes_at_first, fails_before_first}
use Rattle.islands.specs.declared.label.IslandState.{IslandState}
use Rattle.islands.specs.declared.label.IslandState.TheVariants.{Whole, Loose, Asleep}
use Rattle.islands.specs.declared.label.Label.{Label}
use Rattle.islands.specs.Labels.{Labels, label_at, is_in, IsIn, relabel, relabelled, own_label, padded, added, lowest_member, union_label, is_loose}
use Rattle.islands.specs.Partition.{IsPartition, AreTogether}

pub past : (labels : Labels) (s : ℕ) → length labels ≤ s → label_at labels s ≡ None
past [] s h = refl
past (o ∷ labels) zero h = absurd (omega arith)
past (o ∷ labels) (suc s) h = past labels s (omega arith)

pub some_short : (labels : Labels) (slot : ℕ) (l : Label) → label_at labels slot ≡ Some l → slot < length labels
some_short labels slot l e = elim (cases_lt slot (length labels)) [
  | inl k ↦ k
  | inr k ↦ absurd (let no : None ≡ Some l = sym (past labels slot k) ∙ e in cc)
]

pub one_label : (labels : Labels) (s : ℕ) (l m : Label) → label_at labels s ≡ Some l → label_at labels s ≡ Some m → l ≡ m
one_label labels s l m e f = let g : Some l ≡ Some m = sym e ∙ f in cc

-- an island has one label
pub same_by_name : (labels : Labels) (s t : ℕ) (l m : Label) → IsPartition labels → label_at labels s ≡ Some l → label_at labels t ≡ Some m → l.name ≡ m.name → l ≡ m
same_by_name labels s t l m p e f k =
    let here : label_at labels l.name ≡ Some l = p.named s l e in
    let there : label_at labels m.name ≡ Some m = p.named t m f in
    one_label labels m.name l m (ap (λ n. label_at labels n) (sym k) ∙ here) there

pub in_is : (o : Option Label) (n : ℕ) → is_in o n ≡ true → (l : Label) × (o ≡ Some l) × (l.name ≡ n)
in_is None n h = absurd (false≢true h)
in_is (Some l) n h = (l, refl, eqb-true l.name n h)

pub in_some : (l : Label) (n : ℕ) → l.name ≡ n → is_in (Some l) n ≡ true
in_some l n h = eq-eqb l.name n h

pub in_of : (o : Option Label) (l : Label) (n : ℕ) → o ≡ Some l → l.name ≡ n → is_in o n ≡ true
in_of o l n e h = ap (λ x. is_in x n) e ∙ in_some l n h

pub in_case : (o : Option Label) (name : ℕ) → (is_in o name ≡ true) ⊎ (is_in o name ≡ false)
in_case o name = elim (is_in o name) as (λ t. (t ≡ true) ⊎ (t ≡ false)) [ true ↦ inl refl | false ↦ inr refl ]

-- ---- relabelling

pub relabel_at : (a b : ℕ) (to : Label) (labels : Labels) (s : ℕ) → label_at (relabelled a b to labels) s ≡ relabel a b to (label_at labels s)
relabel_at a b to [] s = refl
relabel_at a b to (o ∷ labels) zero = refl
relabel_at a b to (o ∷ labels) (suc s) = relabel_at a b to labels s

abbrev pub of_either : ℕ → ℕ → Option Label → Bool
of_either a b o = is_in o a || is_in o b

pub either_case : (a b : ℕ) (o : Option Label) → (of_either a b o ≡ true) ⊎ (of_either a b o ≡ false)
either_case a b o = elim (of_either a b o) as (λ t. (t ≡ true) ⊎ (t ≡ false)) [ true ↦ inl refl | false ↦ inr refl ]

pub either_to : (a b : ℕ) (to : Label) (labels : Labels) (s : ℕ) → of_either a b (label_at labels s) ≡ true → label_at (relabelled a b to labels) s ≡ Some to
either_to a b to labels s h = relabel_at a b to labels s ∙ rw h refl

pub others_stay : (a b : ℕ) (to : Label) (labels : Labels) (s : ℕ) → of_either a b (label_at labels s) ≡ false → label_at (relabelled a b to labels) s ≡ label_at labels s
others_stay a b to labels s h = relabel_at a b to labels s ∙ rw h refl

either_cases_of : (a b : ℕ) (to l : Label) (o : Option Label) (t : Bool) → of_either a b o ≡ t → relabel a b to o ≡ Some l → ((of_either a b o ≡ true) × (l ≡ to)) ⊎ ((of_either a b o ≡ false) × (o ≡ Some l))
either_cases_of a b to l o true h e = let f : relabel a b to o ≡ Some to = rw h refl in let g : Some to ≡ Some l = sym f ∙ e in inl (h, cc)
either_cases_of a b to l o false h e = let f : relabel a b to o ≡ o = rw h refl in inr (h, sym f ∙ e)

pub either_cases : (a b : ℕ) (to l : Label) (labels : Labels) (s : ℕ) → label_at (relabelled a b to labels) s ≡ Some l → ((of_either a b (label_at labels s) ≡ true) × (l ≡ to)) ⊎ ((of_either a b (label_at labels s) ≡ false) × (label_at labels s ≡ Some l))
either_cases a b to l labels s e = either_cases_of a b to l (label_at labels s) (of_either a b (label_at labels s)) refl (sym (relabel_at a b to labels s) ∙ e)

pub either_is : (a b : ℕ) (o : Option Label) → of_either a b o ≡ true → (l : Label) × (o ≡ Some l) × ((l.name ≡ a) ⊎ (l.name ≡ b))
either_is a b None h = absurd (false≢true h)
either_is a b (Some l) h = elim (cases_eq l.name a) [
  | inl k ↦ (l, refl, inl k)
  | inr k ↦ elim (cases_eq l.name b) [ inl m ↦ (l, refl, inr m) | inr m ↦ absurd (grind (arith, common_steps)) ]
]

pub either_first : (a b : ℕ) (l : Label) → l.name ≡ a → of_either a b (Some l) ≡ true
either_first a b l h = grind (arith, common_steps)

pub either_second : (a b : ℕ) (l : Label) → l.name ≡ b → of_either a b (Some l) ≡ true
either_second a b l h = grind (arith, common_steps)

-- a label that a relabelling misses has none of its names
pub missed : (a b : ℕ) (o : Option Label) (l : Label) → of_either a b o ≡ false → o ≡ Some l → (l.name ≡ a → ⊥) × (l.name ≡ b → ⊥)
missed a b o l h e = let no : of_either a b (Some l) ≡ false = sym (ap (of_either a b) e) ∙ h in
    ((λ k. false≢true (sym no ∙ either_first a b l k)), (λ k. false≢true (sym no ∙ either_second a b l k)))

pub either_one : (n : ℕ) (o : Option Label) → of_either n n o ≡ true → is_in o n ≡ true
either_one n None h = h
either_one n (Some l) h = let m = either_is n n (Some l) h in
    let q : l ≡ m.0 = cc in
    let k : l.name ≡ m.0.name = ap (λ (x : Label). x.name) q in
    in_some l n (elim m.2 [ inl e ↦ k ∙ e | inr e ↦ k ∙ e ])

pub one_either : (n : ℕ) (o : Option Label) → is_in o n ≡ true → of_either n n o ≡ true
one_either n o h = rw h refl

pub relabelled_partition : (a b : ℕ) (to : Label) (labels : Labels)
    → ((s : ℕ) (l : Label) → label_at labels s ≡ Some l → of_either a b (label_at labels s) ≡ false → (l.name ≤ s) × (label_at labels l.name ≡ Some l))
    → ((s : ℕ) → of_either a b (label_at labels s) ≡ true → to.name ≤ s)
    → of_either a b (label_at labels to.name) ≡ true
    → IsPartition (relabelled a b to labels)
relabelled_partition a b to labels others least home = record {
  low = λ s l e. elim (either_cases a b to l labels s e) [
    | inl k ↦ rw k.1 (least s k.0)
    | inr k ↦ (others s l k.1 k.0).0
  ];
  named = λ s l e. elim (either_cases a b to l labels s e) [
    | inl k ↦ rw k.1 (either_to a b to labels to.name home)
    | inr k ↦ let stays : label_at labels l.name ≡ Some l = (others s l k.1 k.0).1 in
        let same : of_either a b (label_at labels l.name) ≡ of_either a b (label_at labels s) = ap (of_either a b) (stays ∙ sym k.1) in
        others_stay a b to labels l.name (same ∙ k.0) ∙ stays
  ];
}

-- two movers of one island stay together
pub relabelled_together : (a b : ℕ) (to : Label) (labels : Labels) (s t : ℕ) → AreTogether labels s t → AreTogether (relabelled a b to labels) s t
relabelled_together a b to labels s t w = elim (either_case a b (label_at labels s)) [
  | inl k ↦ let same : of_either a b (label_at labels t) ≡ of_either a b (label_at labels s) = ap (of_either a b) (w.2 ∙ sym w.1) in
      (to, either_to a b to labels s k, either_to a b to labels t (same ∙ k))
  | inr k ↦ let same : of_either a b (label_at labels t) ≡ of_either a b (label_at labels s) = ap (of_either a b) (w.2 ∙ sym w.1) in
      (w.0, others_stay a b to labels s k ∙ w.1, others_stay a b to labels t (same ∙ k) ∙ w.2)
]

-- ---- the parts of a merge

pub union_low : (x y : Label) → (((union_label x y).name ≡ x.name) ⊎ ((union_label x y).name ≡ y.name)) × ((union_label x y).name ≤ x.name) × ((union_label x y).name ≤ y.name)
union_low x y = elim (cases_lt x.name y.name) [
  | inl k ↦ let at : min x.name y.name ≡ x.name = omega (arith, k) in (inl at, omega arith, omega arith)
  | inr k ↦ let at : min x.name y.name ≡ y.name = omega (arith, k) in (inr at, omega arith, omega arith)
]

union_whole_of : (s t : IslandState) → is_loose (cond (is_loose s || is_loose t) Loose Whole) ≡ false → (is_loose s ≡ false) × (is_loose t ≡ false)
union_whole_of Loose t h = absurd (false≢true (sym h))
union_whole_of Whole Whole h = (refl, refl)
union_whole_of Whole Loose h = absurd (false≢true (sym h))
union_whole_of Whole Asleep h = (refl, refl)
union_whole_of Asleep Whole h = (refl, refl)
union_whole_of Asleep Loose h = absurd (false≢true (sym h))
union_whole_of Asleep Asleep h = (refl, refl)

-- a union isn't loose where neither part is
pub union_whole : (x y : Label) → is_loose (union_label x y).state ≡ false → (is_loose x.state ≡ false) × (is_loose y.state ≡ false)
union_whole x y h = union_whole_of x.state y.state h

pub union_of_either : (x y : Label) → of_either x.name y.name (Some (union_label x y)) ≡ true
union_of_either x y = elim (union_low x y).0 [ inl k ↦ either_first x.name y.name (union_label x y) k | inr k ↦ either_second x.name y.name (union_label x y) k ]

pub merged_partition : (labels : Labels) (a b : ℕ) (x y : Label) → IsPartition labels → label_at labels a ≡ Some x → label_at labels b ≡ Some y → IsPartition (relabelled x.name y.name (union_label x y) labels)
merged_partition labels a b x y p e f = relabelled_partition x.name y.name (union_label x y) labels
    (λ s l k m. (p.low s l k, p.named s l k))
    (λ s h. let m = either_is x.name y.name (label_at labels s) h in let low : m.0.name ≤ s = p.low s m.0 m.1 in let u = union_low x y in
    elim m.2 [ inl k ↦ omega (arith, low, k, u.1) | inr k ↦ omega (arith, low, k, u.2) ])
    (let home_x : label_at labels x.name ≡ Some x = p.named a x e in
    let home_y : label_at labels y.name ≡ Some y = p.named b y f in
    elim (union_low x y).0 [
      | inl k ↦ ap (λ n. of_either x.name y.name (label_at labels n)) k ∙ ap (of_either x.name y.name) home_x ∙ either_first x.name y.name x refl
      | inr k ↦ ap (λ n. of_either x.name y.name (label_at labels n)) k ∙ ap (of_either x.name y.name) home_y ∙ either_second x.name y.name y refl
    ])

-- ---- another state

pub with_state_partition : (labels : Labels) (name : ℕ) (to : Label) → IsPartition labels → to.name ≡ name → IsIn labels name name → IsPartition (relabelled name name to labels)
with_state_partition labels name to p k h = relabelled_partition name name to labels
    (λ s l e m. (p.low s l e, p.named s l e))
    (λ s e. let m = either_is name name (label_at labels s) e in let low : m.0.name ≤ s = p.low s m.0 m.1 in
    elim m.2 [ inl q ↦ omega (arith, low, q, k) | inr q ↦ omega (arith, low, q, k) ])
    (ap (λ n. of_either name name (label_at labels n)) k ∙ one_either name (label_at labels name) h)

-- ---- a mover comes

blank_at : (n s : ℕ) → label_at (replicate n None) s ≡ None
blank_at zero s = refl
blank_at (suc n) zero = refl
blank_at (suc n) (suc s) = blank_at n s

blanks_at : (labels : Labels) (n s : ℕ) → label_at (labels ++ replicate n None) s ≡ label_at labels s
blanks_at [] n s = blank_at n s
blanks_at (o ∷ labels) n zero = refl
blanks_at (o ∷ labels) n (suc s) = blanks_at labels n s

padded_long : (labels : Labels) (slot : ℕ) → slot < length (padded labels (slot + 1))
padded_long labels slot = grind (arith, common_steps)

pub added_here : (labels : Labels) (slot : ℕ) → label_at (added labels slot) slot ≡ Some (own_label slot)
added_here labels slot = get_or-set_same (padded labels (slot + 1)) slot (Some (own_label slot)) None (padded_long labels slot)

pub added_other : (labels : Labels) (slot s : ℕ) → s ≢ slot → label_at (added labels slot) s ≡ label_at labels s
added_other labels slot s h = get_or-set_other (padded labels (slot + 1)) slot s (Some (own_label slot)) None h ∙ blanks_at labels (slot + 1 - length labels) s

pub added_is : (labels : Labels) (slot s : ℕ) (l : Label) → label_at (added labels slot) s ≡ Some l → ((s ≡ slot) × (l ≡ own_label slot)) ⊎ ((s ≢ slot) × (label_at labels s ≡ Some l))
added_is labels slot s l e = elim (cases_eq s slot) [
  | inl k ↦ inl (k, one_label (added labels slot) s l (own_label slot) e (ap (λ n. label_at (added labels slot) n) k ∙ added_here labels slot))
  | inr k ↦ inr (k, sym (added_other labels slot s k) ∙ e)
]

pub added_partition : (labels : Labels) (slot : ℕ) → IsPartition labels → label_at labels slot ≡ None → IsPartition (added labels slot)
added_partition labels slot p fresh = record {
  low = λ s l e. elim (added_is labels slot s l e) [
    | inl k ↦ let m : l.name ≡ slot = ap (λ (x : Label). x.name) k.1 in omega (arith, m, k.0)
    | inr k ↦ p.low s l k.1
  ];
  named = λ s l e. elim (added_is labels slot s l e) [
    | inl k ↦ let m : l.name ≡ slot = ap (λ (x : Label). x.name) k.1 in ap (λ n. label_at (added labels slot) n) m ∙ added_here labels slot ∙ ap (λ x. Some x) (sym k.1)
    | inr k ↦ let home : label_at labels l.name ≡ Some l = p.named s l k.1 in
        let apart : l.name ≢ slot = λ m. let no : None ≡ Some l = sym fresh ∙ ap (λ n. label_at labels n) (sym m) ∙ home in cc in
        added_other labels slot l.name apart ∙ home
  ];
}

-- ---- a mover goes

abbrev pub rest_of : Labels → ℕ → Labels
rest_of labels slot = slice_set labels slot None

-- what the others are once it has gone
pub rest_is : (labels : Labels) (slot : ℕ) (l : Label) (s : ℕ) (m : Label) → label_at labels slot ≡ Some l → label_at (rest_of labels slot) s ≡ Some m → (s ≢ slot) × (label_at labels s ≡ Some m)
rest_is labels slot l s m e h =
    let lt : slot < length labels = some_short labels slot l e in
    let away : s ≢ slot = λ k. let here : label_at (rest_of labels slot) slot ≡ Some m = ap (λ n. label_at (rest_of labels slot) n) (sym k) ∙ h in let no : None ≡ Some m = sym (get_or-set_same labels slot None None lt) ∙ here in cc in
    (away, sym (get_or-set_other labels slot s None None away) ∙ h)

pub rest_stays : (labels : Labels) (slot s : ℕ) → s ≢ slot → label_at (rest_of labels slot) s ≡ label_at labels s
rest_stays labels slot s h = get_or-set_other labels slot s None None h

rest_others : (labels : Labels) (slot : ℕ) (l : Label) → IsPartition labels → label_at labels slot ≡ Some l
    → (s : ℕ) (m : Label) → label_at (rest_of labels slot) s ≡ Some m → (m.name ≡ l.name → ⊥) → (m.name ≤ s) × (label_at (rest_of labels slot) m.name ≡ Some m)
rest_others labels slot l p e s m h apart =
    let was = rest_is labels slot l s m e h in
    let home : label_at labels m.name ≡ Some m = p.named s m was.1 in
    let off : m.name ≢ slot = λ k. let here : label_at labels slot ≡ Some m = ap (λ n. label_at labels n) (sym k) ∙ home in apart (ap (λ (x : Label). x.name) (one_label labels slot m l here e)) in
    (p.low s m was.1, rest_stays labels slot m.name off ∙ home)

none_here : (name : ℕ) (labels : Labels) (s : ℕ) (d : Option Label) → s < lowest_member name labels → is_in (get_or labels s d) name ≡ false
none_here name labels s d h = fails_before_first (λ o. is_in o name) labels s d h

pub left_partition : (labels : Labels) (slot : ℕ) (l : Label) → IsPartition labels → label_at labels slot ≡ Some l → lowest_member l.name (rest_of labels slot) < length (rest_of labels slot) → IsPartition (relabelled l.name l.name (record { name = lowest_member l.name (rest_of labels slot); state = Loose }) (rest_of labels slot))
left_partition labels slot l p e found =
    let rest : Labels = rest_of labels slot in
    let low : ℕ = lowest_member l.name rest in
    let at : is_in (label_at rest low) l.name ≡ true = passes_at_first (λ o. is_in o l.name) rest None found in
    relabelled_partition l.name l.name (record { name = low; state = Loose }) rest
    (λ s m k h. rest_others labels slot l p e s m k (missed l.name l.name (label_at rest s) m h k).0)
    (λ s h. elim (cases_lt s low) [
      | inl k ↦ absurd (false≢true (sym (none_here l.name rest s None k) ∙ either_one l.name (label_at rest s) h))
      | inr k ↦ k
    ])
    (one_either l.name (label_at rest low) at)

-- nobody is left behind
pub none_left : (labels : Labels) (slot : ℕ) (l : Label) → length (rest_of labels slot) ≤ lowest_member l.name (rest_of labels slot) → (s : ℕ) (m : Label) → label_at (rest_of labels slot) s ≡ Some m → m.name ≡ l.name → ⊥
none_left labels slot l none s m h k =
    let short : s < length (rest_of labels slot) = some_short (rest_of labels slot) s m h in
    false≢true (sym (none_here l.name (rest_of labels slot) s None (omega (arith, short, none))) ∙ in_of (label_at (rest_of labels slot) s) m l.name h k)

pub gone_partition : (labels : Labels) (slot : ℕ) (l : Label) → IsPartition labels → label_at labels slot ≡ Some l → length (rest_of labels slot) ≤ lowest_member l.name (rest_of labels slot) → IsPartition (rest_of labels slot)
gone_partition labels slot l p e none = record {
  low = λ s m k. (rest_others labels slot l p e s m k (none_left labels slot l none s m k)).0;
  named = λ s m k. (rest_others labels slot l p e s m k (none_left labels slot l none s m k)).1;
}
