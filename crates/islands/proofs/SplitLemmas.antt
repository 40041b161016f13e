-- A split gives the components, and merges from link to link are a split.
use Rattle.std.proofs.Common.{◌≡◌, ◌≤◌, ℕ, zero, suc, ◌+◌, [], ◌∷◌, length, Option, Some, None, false, ◌⊎◌, inl, inr, arith, refl, sym, ap, ◌∙◌, subst}
use Rattle.std.specs.Prelude.{min, cond, Contains}
use Rattle.std.proofs.lemmas.Bool.{cases_lt, false≢true}
use Rattle.std.proofs.lemmas.List.{length-map}
use Rattle.std.proofs.lemmas.List.FromFn.{length-map-range_with_len, get_or-map-range_with_len}
use Rattle.islands.specs.declared.label.Label.{Label}
use Rattle.islands.specs.Links.{Edges, Linked, Joined, IsPairOf}
use Rattle.islands.specs.Labels.{Labels, label_at, is_in, IsIn, relabel, relabelled, own_label, merged, merged_by, union_label, least_reached, split_label, split_by}
use Rattle.islands.specs.Merging.{alone, scattered_from, merged_all}
use Rattle.islands.specs.Partition.{IsPartition, AreTogether, AreIslands, Inside, IsComponent, IsSplit}
use Rattle.islands.specs.Laws.{SplittingKeeps, MergingSplits}
use Rattle.islands.proofs.JoinLemmas.{joined_one, joined_within, contains_head, contains_tail, pair_of, pair_linked, linked_tail}
use Rattle.islands.proofs.LabelLemmas.{past, one_label, in_case, either_case, either_is, either_to, others_stay}
use Rattle.islands.proofs.ReachLemmas.{reaching_is_joined, least_below, least_there}
use Rattle.islands.proofs.SlotLemmas.{same_labels}
use Rattle.islands.proofs.KeptLemmas.{same_links, merging}

-- ---- a mover has a label

abbrev pub IsLabelled : Labels → ℕ → Type 0
IsLabelled labels s = (l : Label) × (label_at labels s ≡ Some l)

-- a merge leaves none without
labelled_on : (labels : Labels) (a b s : ℕ) (x y : Label) → IsLabelled labels s → IsLabelled (relabelled x.name y.name (union_label x y) labels) s
labelled_on labels a b s x y h = elim (either_case x.name y.name (label_at labels s)) [
  | inl k ↦ (union_label x y, either_to x.name y.name (union_label x y) labels s k)
  | inr k ↦ (h.0, others_stay x.name y.name (union_label x y) labels s k ∙ h.1)
]

labelled_by : (labels : Labels) (a b s : ℕ) (o p : Option Label) → IsLabelled labels s → IsLabelled (merged_by o p labels) s
labelled_by labels a b s None p h = h
labelled_by labels a b s (Some x) None h = h
labelled_by labels a b s (Some x) (Some y) h = labelled_on labels a b s x y h

pub still_labelled : (labels : Labels) (a b s : ℕ) → IsLabelled labels s → IsLabelled (merged labels a b) s
unfolding merged
still_labelled labels a b s h = labelled_by labels a b s (label_at labels a) (label_at labels b) h

-- ---- merges of the ends of links

abbrev With : (ℕ → ℕ → Type 0) → Edges → ℕ → ℕ → Type 0
With R edges s t = R s t ⊎ Linked edges s t

pub merging_all : (edges : Edges) (R : ℕ → ℕ → Type 0) (labels : Labels) → AreIslands R labels → ((a b : ℕ) → Contains edges (a, b) → IsLabelled labels a × IsLabelled labels b) → AreIslands (With R edges) (merged_all labels edges)
merging_all [] R labels w ends = same_links R (With R []) labels (λ s t h. inl h) (λ s t h. elim h [ inl k ↦ k | inr k ↦ absurd (elim k [ inl m ↦ omega (arith, m.1) | inr m ↦ omega (arith, m.1) ]) ]) w
merging_all (e ∷ edges) R labels w ends =
    let one : ℕ → ℕ → Type 0 = λ s t. R s t ⊎ IsPairOf e.0 e.1 s t in
    let here = ends e.0 e.1 (contains_head e edges) in
    let first : AreIslands one (merged labels e.0 e.1) = merging R one labels e.0 e.1 here.0.0 here.1.0 w here.0.1 here.1.1 (record {
      kept = λ s t h. inl h;
      gained = λ s t h. h;
      there = inr (inl (refl, refl));
      back = inr (inr (refl, refl));
    }) in
    let more : AreIslands (With one edges) (merged_all (merged labels e.0 e.1) edges) = merging_all edges one (merged labels e.0 e.1) first
    (λ a b h. let o = ends a b (contains_tail e edges (a, b) h) in (still_labelled labels e.0 e.1 a o.0, still_labelled labels e.0 e.1 b o.1)) in
    same_links (With one edges) (With R (e ∷ edges)) (merged_all (merged labels e.0 e.1) edges)
    (λ s t h. elim h [
      | inl k ↦ elim k [ inl m ↦ inl m | inr m ↦ inr (pair_linked e edges s t m) ]
      | inr k ↦ inr (linked_tail e edges s t k)
    ])
    (λ s t h. elim h [
      | inl k ↦ inl (inl k)
      | inr k ↦ elim (pair_of e edges s t k) [ inl m ↦ inl (inr m) | inr m ↦ inr m ]
    ])
    more

-- ---- each mover of the island on its own

pub scattered_at : (slot name : ℕ) (labels : Labels) (s : ℕ) → label_at (scattered_from slot name labels) s ≡ alone name (slot + s) (label_at labels s)
scattered_at slot name [] s = refl
scattered_at slot name (o ∷ labels) zero = let same : slot ≡ slot + 0 = omega arith in ap (λ n. alone name n o) same
scattered_at slot name (o ∷ labels) (suc s) = let same : suc slot + s ≡ slot + suc s = omega arith in scattered_at (suc slot) name labels s ∙ ap (λ n. alone name n (label_at labels s)) same

pub scattered_size : (slot name : ℕ) (labels : Labels) → length (scattered_from slot name labels) ≡ length labels
scattered_size slot name [] = refl
scattered_size slot name (o ∷ labels) = ap (λ n. suc n) (scattered_size (suc slot) name labels)

abbrev scattered : ℕ → Labels → Labels
scattered name labels = scattered_from 0 name labels

scattered_in : (labels : Labels) (name s : ℕ) → IsIn labels name s → label_at (scattered name labels) s ≡ Some (own_label s)
scattered_in labels name s h = let same : 0 + s ≡ s = omega arith in scattered_at 0 name labels s ∙ rw h (ap (λ n. Some (own_label n)) same)

scattered_out : (labels : Labels) (name s : ℕ) → is_in (label_at labels s) name ≡ false → label_at (scattered name labels) s ≡ label_at labels s
scattered_out labels name s h = scattered_at 0 name labels s ∙ rw h refl

-- a mover of another island, whose name is another
out_name : (labels : Labels) (name s : ℕ) (l : Label) → IsPartition labels → label_at labels s ≡ Some l → is_in (label_at labels s) name ≡ false → is_in (label_at labels l.name) name ≡ false
out_name labels name s l p e h = ap (λ o. is_in o name) (p.named s l e ∙ sym e) ∙ h

abbrev Outside : (ℕ → ℕ → Type 0) → Labels → ℕ → ℕ → ℕ → Type 0
Outside R labels name s t = R s t × (is_in (label_at labels s) name ≡ false)

scattering : (R : ℕ → ℕ → Type 0) (labels : Labels) (name : ℕ) → AreIslands R labels → AreIslands (Outside R labels name) (scattered name labels)
scattering R labels name w = record {
  partition = record {
    low = λ s l e. elim (in_case (label_at labels s) name) [
      | inl h ↦ let m : l ≡ own_label s = one_label (scattered name labels) s l (own_label s) e (scattered_in labels name s h) in let k : l.name ≡ s = ap (λ (x : Label). x.name) m in omega (arith, k)
      | inr h ↦ w.partition.low s l (sym (scattered_out labels name s h) ∙ e)
    ];
    named = λ s l e. elim (in_case (label_at labels s) name) [
      | inl h ↦ let m : l ≡ own_label s = one_label (scattered name labels) s l (own_label s) e (scattered_in labels name s h) in let k : l.name ≡ s = ap (λ (x : Label). x.name) m in ap (λ n. label_at (scattered name labels) n) k ∙ e
      | inr h ↦ let was : label_at labels s ≡ Some l = sym (scattered_out labels name s h) ∙ e in
          scattered_out labels name l.name (out_name labels name s l w.partition was h) ∙ w.partition.named s l was
    ];
  };
  together = λ s t h. let o = w.together s t h.0 in
      let off : is_in (label_at labels t) name ≡ false = ap (λ x. is_in x name) (o.2 ∙ sym o.1) ∙ h.1 in
      (o.0, scattered_out labels name s h.1 ∙ o.1, scattered_out labels name t off ∙ o.2);
  connected = λ s t l h k n. elim (in_case (label_at labels s) name) [
    | inl p ↦ let a : l.name ≡ s = ap (λ (x : Label). x.name) (one_label (scattered name labels) s l (own_label s) h (scattered_in labels name s p)) in
        elim (in_case (label_at labels t) name) [
          | inl q ↦ let b : l.name ≡ t = ap (λ (x : Label). x.name) (one_label (scattered name labels) t l (own_label t) k (scattered_in labels name t q)) in ([], sym a ∙ b)
          | inr q ↦ absurd (let was : label_at labels t ≡ Some l = sym (scattered_out labels name t q) ∙ k in
              false≢true (sym (out_name labels name t l w.partition was q) ∙ ap (λ m. is_in (label_at labels m) name) a ∙ p))
        ]
    | inr p ↦ let was : label_at labels s ≡ Some l = sym (scattered_out labels name s p) ∙ h in
        elim (in_case (label_at labels t) name) [
          | inl q ↦ let b : l.name ≡ t = ap (λ (x : Label). x.name) (one_label (scattered name labels) t l (own_label t) k (scattered_in labels name t q)) in
              absurd (false≢true (sym (out_name labels name s l w.partition was p) ∙ ap (λ m. is_in (label_at labels m) name) b ∙ q))
          | inr q ↦ let also : label_at labels t ≡ Some l = sym (scattered_out labels name t q) ∙ k in
              let P : ℕ → Type 0 = λ v. is_in (label_at labels v) name ≡ false in
              (joined_within R (Outside R labels name) P s t
              (λ u v r c. let o = w.together u v r in ((r, c), ap (λ x. is_in x name) (o.2 ∙ sym o.1) ∙ c))
              p (w.connected s t l was also n)).0
        ]
  ];
}

-- ---- as the ends of links are merged, each mover of the island has an own label, and the others keep theirs

pub record IsSplitting (old : Labels) (name : ℕ) (now : Labels) : Type 0 where
  pub size : length now ≡ length old
  pub others : (s : ℕ) → is_in (label_at old s) name ≡ false → label_at now s ≡ label_at old s
  pub members : (s : ℕ) → IsIn old name s → (c : ℕ) × (label_at now s ≡ Some (own_label c)) × IsIn old name c

splitting_starts : (old : Labels) (name : ℕ) → IsSplitting old name (scattered name old)
splitting_starts old name = record {
  size = scattered_size 0 name old;
  others = λ s h. scattered_out old name s h;
  members = λ s h. (s, scattered_in old name s h, h);
}

-- another island has no name of this one's movers
other_name : (old : Labels) (name c s : ℕ) (l : Label) → IsPartition old → IsIn old name c → label_at old s ≡ Some l → is_in (label_at old s) name ≡ false → l.name ≡ c → ⊥
other_name old name c s l p h e out k = false≢true (sym (out_name old name s l p e out) ∙ ap (λ n. is_in (label_at old n) name) k ∙ h)

min_in : (old : Labels) (name c d : ℕ) → IsIn old name c → IsIn old name d → IsIn old name (min c d)
min_in old name c d h k = elim (cases_lt c d) [
  | inl m ↦ let at : min c d ≡ c = omega (arith, m) in rw at h
  | inr m ↦ let at : min c d ≡ d = omega (arith, m) in rw at k
]

splitting_labels : (old : Labels) (name c d : ℕ) (now : Labels) → IsPartition old → IsSplitting old name now → IsIn old name c → IsIn old name d → IsSplitting old name (relabelled c d (own_label (min c d)) now)
splitting_labels old name c d now p w h k = record {
  size = length-map now (relabel c d (own_label (min c d))) ∙ w.size;
  others = λ s out. elim (either_case c d (label_at now s)) [
    | inl x ↦ let m = either_is c d (label_at now s) x in
        let was : label_at old s ≡ Some m.0 = sym (w.others s out) ∙ m.1 in
        absurd (elim m.2 [ inl e ↦ other_name old name c s m.0 p h was out e | inr e ↦ other_name old name d s m.0 p k was out e ])
    | inr x ↦ others_stay c d (own_label (min c d)) now s x ∙ w.others s out
  ];
  members = λ s is. let o = w.members s is in elim (either_case c d (label_at now s)) [
    | inl x ↦ (min c d, either_to c d (own_label (min c d)) now s x, min_in old name c d h k)
    | inr x ↦ (o.0, others_stay c d (own_label (min c d)) now s x ∙ o.1, o.2)
  ];
}

splitting_step : (old : Labels) (name a b : ℕ) (now : Labels) → IsPartition old → IsSplitting old name now → IsIn old name a → IsIn old name b → IsSplitting old name (merged now a b)
unfolding merged
splitting_step old name a b now p w h k =
    let x = w.members a h in
    let y = w.members b k in
    rw (x.1, y.1) (splitting_labels old name x.0 y.0 now p w x.2 y.2)

splitting_all : (edges : Edges) (old : Labels) (name : ℕ) (now : Labels) → IsPartition old → Inside old name edges → IsSplitting old name now → IsSplitting old name (merged_all now edges)
splitting_all [] old name now p inside w = w
splitting_all (e ∷ edges) old name now p inside w =
    let here = inside e.0 e.1 (contains_head e edges) in
    splitting_all edges old name (merged now e.0 e.1) p (λ a b h. inside a b (contains_tail e edges (a, b) h)) (splitting_step old name e.0 e.1 now p w here.0 here.1)

-- ---- the components

component : (R : ℕ → ℕ → Type 0) (old : Labels) (name : ℕ) (edges : Edges) (new : Labels) (s : ℕ) → IsPartition old → IsSplitting old name new → AreIslands (With (Outside R old name) edges) new → IsIn old name s → IsComponent edges new s
component R old name edges new s p w v h =
    let o = w.members s h in
    let c : ℕ = o.0 in
    let home : label_at new c ≡ Some (own_label c) = v.partition.named s (own_label c) o.1 in
    let P : ℕ → Type 0 = λ u. label_at new u ≡ Some (own_label c) in
    let T : ℕ → ℕ → Type 0 = With (Outside R old name) edges in
    let on : (a b : ℕ) → T a b → P a → P b = λ a b r e. let q = v.together a b r in q.2 ∙ ap (λ x. Some x) (one_label new a q.0 (own_label c) q.1 e) in
    let by : (a b : ℕ) → T a b → P a → Linked edges a b × P b = λ a b r e. (
      elim r [
        | inl m ↦ absurd (other_name old name c a (own_label c) p o.2 (sym (w.others a m.1) ∙ e) m.1 refl)
        | inr m ↦ m
      ],
      on a b r e,
    ) in
    record {
      name = c;
      label = o.1;
      joined = (joined_within T (Linked edges) P s c by o.1 (v.connected s c (own_label c) o.1 home refl)).0;
      lowest = λ t j. v.partition.low t (own_label c) (joined_within (Linked edges) T P s t (λ a b r e. (inr r, on a b (inr r) e)) o.1 j).1;
    }

-- ---- with no links but those of the island: all movers of one island count as linked

abbrev Mates : Labels → ℕ → ℕ → Type 0
Mates labels s t = AreTogether labels s t

partition_is : (labels : Labels) → IsPartition labels → AreIslands (Mates labels) labels
partition_is labels p = record { partition = p; together = λ s t h. h; connected = λ s t l h k n. joined_one (Mates labels) s t (l, h, k) }

ends_labelled : (labels : Labels) (name : ℕ) (edges : Edges) → Inside labels name edges → (a b : ℕ) → Contains edges (a, b) → IsLabelled (scattered name labels) a × IsLabelled (scattered name labels) b
ends_labelled labels name edges inside a b h = let i = inside a b h in ((own_label a, scattered_in labels name a i.0), (own_label b, scattered_in labels name b i.1))

merged_islands : (R : ℕ → ℕ → Type 0) (labels : Labels) (name : ℕ) (edges : Edges) → AreIslands R labels → Inside labels name edges → AreIslands (With (Outside R labels name) edges) (merged_all (scattered name labels) edges)
merged_islands R labels name edges w inside = merging_all edges (Outside R labels name) (scattered name labels) (scattering R labels name w) (ends_labelled labels name edges inside)

merged_is : (labels : Labels) (name : ℕ) (edges : Edges) → IsPartition labels → Inside labels name edges → IsSplit labels name edges (merged_all (scattered name labels) edges)
merged_is labels name edges p inside =
    let parts : IsSplitting labels name (merged_all (scattered name labels) edges) = splitting_all edges labels name (scattered name labels) p inside (splitting_starts labels name) in
    record {
      size = parts.size;
      others = parts.others;
      members = λ s h. component (Mates labels) labels name edges (merged_all (scattered name labels) edges) s p parts (merged_islands (Mates labels) labels name edges (partition_is labels p) inside) h;
    }

-- ---- a split, slot by slot

pub split_size : (labels : Labels) (name : ℕ) (edges : Edges) → length (split_by labels name edges) ≡ length labels
unfolding split_by
split_size labels name edges = length-map-range_with_len (split_label labels name edges) 0 (length labels)

split_at : (labels : Labels) (name : ℕ) (edges : Edges) (s : ℕ) → label_at (split_by labels name edges) s ≡ split_label labels name edges s
unfolding split_by
split_at labels name edges s = elim (cases_lt s (length labels)) [
  | inl lt ↦ get_or-map-range_with_len (split_label labels name edges) 0 (length labels) s s None lt (omega arith)
  | inr le ↦
      let size = split_size labels name edges in
      let out : label_at (split_by labels name edges) s ≡ None = past (split_by labels name edges) s (omega (arith, size, le)) in
      let none : split_label labels name edges s ≡ None = ap (λ o. cond (is_in o name) (Some (own_label (least_reached labels name edges s))) o) (past labels s le) in
      out ∙ sym none
]

split_in : (labels : Labels) (name : ℕ) (edges : Edges) (s : ℕ) → IsIn labels name s → label_at (split_by labels name edges) s ≡ Some (own_label (least_reached labels name edges s))
split_in labels name edges s h = split_at labels name edges s ∙ ap (λ t. cond t (Some (own_label (least_reached labels name edges s))) (label_at labels s)) h

pub split_out : (labels : Labels) (name : ℕ) (edges : Edges) (s : ℕ) → is_in (label_at labels s) name ≡ false → label_at (split_by labels name edges) s ≡ label_at labels s
split_out labels name edges s h = split_at labels name edges s ∙ ap (λ t. cond t (Some (own_label (least_reached labels name edges s))) (label_at labels s)) h

linked_in : (labels : Labels) (name : ℕ) (edges : Edges) (a b : ℕ) → Inside labels name edges → Linked edges a b → IsIn labels name b
linked_in labels name edges a b inside h = elim h [ inl k ↦ (inside a b k).1 | inr k ↦ (inside b a k).0 ]

joined_in : (labels : Labels) (name : ℕ) (edges : Edges) (a b : ℕ) → Inside labels name edges → IsIn labels name a → Joined (Linked edges) a b → IsIn labels name b
joined_in labels name edges a b inside h j =
    let P : ℕ → Type 0 = λ s. IsIn labels name s in
    (joined_within (Linked edges) (Linked edges) P a b (λ s t r i. (r, linked_in labels name edges s t inside r)) h j).1

split_component : (labels : Labels) (name : ℕ) (edges : Edges) (s : ℕ) → Inside labels name edges → IsIn labels name s → IsComponent edges (split_by labels name edges) s
split_component labels name edges s inside h = record {
  name = least_reached labels name edges s;
  label = split_in labels name edges s h;
  joined = (reaching_is_joined edges s (least_reached labels name edges s)).0 (least_there labels name edges s h).1;
  lowest = λ t j. least_below labels name edges s t (joined_in labels name edges s t inside h j) ((reaching_is_joined edges s t).1 j);
}

pub split_is : (labels : Labels) (name : ℕ) (edges : Edges) → IsPartition labels → Inside labels name edges → IsSplit labels name edges (split_by labels name edges)
split_is labels name edges p inside = record {
  size = split_size labels name edges;
  others = λ s h. split_out labels name edges s h;
  members = λ s h. split_component labels name edges s inside h;
}

-- ---- no other labels are a split

same_component : (edges : Edges) (new other : Labels) (s : ℕ) → IsComponent edges new s → IsComponent edges other s → label_at new s ≡ label_at other s
same_component edges new other s v w =
    let under : v.name ≤ w.name = v.lowest w.name w.joined in
    let over : w.name ≤ v.name = w.lowest v.name v.joined in
    let same : v.name ≡ w.name = omega (arith, under, over) in
    v.label ∙ ap (λ n. Some (own_label n)) same ∙ sym w.label

same_split : (old : Labels) (name : ℕ) (edges : Edges) (new other : Labels) → IsSplit old name edges new → IsSplit old name edges other → new ≡ other
same_split old name edges new other v w = same_labels new other (v.size ∙ sym w.size) (λ s. elim (in_case (label_at old s) name) [
  | inl h ↦ same_component edges new other s (v.members s h) (w.members s h)
  | inr h ↦ v.others s h ∙ sym (w.others s h)
])

pub merging_splits : MergingSplits
merging_splits labels name edges p inside = same_split labels name edges (merged_all (scattered name labels) edges) (split_by labels name edges) (merged_is labels name edges p inside) (split_is labels name edges p inside)

-- ---- what a split keeps

pub splitting_keeps : SplittingKeeps
splitting_keeps links labels name edges w of =
    let R : ℕ → ℕ → Type 0 = Linked links in
    let merges : Labels = merged_all (scattered name labels) edges in
    let kept : AreIslands R merges = same_links (With (Outside R labels name) edges) R merges
    (λ s t h. elim h [ inl k ↦ k.0 | inr k ↦ of.links s t k ])
    (λ s t h. elim (in_case (label_at labels s) name) [ inl k ↦ inr (of.all s t h k) | inr k ↦ inl (h, k) ])
    (merged_islands R labels name edges w of.inside) in
    let P : Labels → Type 0 = λ l. AreIslands R l in
    (subst P (merging_splits labels name edges w.partition of.inside) kept, split_is labels name edges w.partition of.inside)

pub split_partition : (labels : Labels) (name : ℕ) (edges : Edges) → IsPartition labels → Inside labels name edges → IsPartition (split_by labels name edges)
split_partition labels name edges p inside =
    let P : Labels → Type 0 = λ l. IsPartition l in
    subst P (merging_splits labels name edges p inside) (merged_islands (Mates labels) labels name edges (partition_is labels p) inside).partition
