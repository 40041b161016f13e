-- What keeps the islands: R are the links before, and S those after.
use Rattle.std.proofs.Common.{◌≡◌, ◌≢◌, ℕ, [], length, Option, Some, None, true, false, ◌⊎◌, inl, inr, refl, sym, ap, ◌∙◌, subst}
use Rattle.std.proofs.lemmas.Bool.{cases_lt, false≢true, lt-ltb, le-ltb}
use Rattle.std.specs.Option.{option_map_or}
use Rattle.std.specs.Prelude.{slice_set}
use Rattle.islands.specs.declared.label.IslandState.{IslandState}
use Rattle.islands.specs.declared.label.IslandState.TheVariants.{Loose}
use Rattle.islands.specs.declared.label.Label.{Label}
use Rattle.islands.specs.Links.{Linked, Joined, IsPairOf}
use Rattle.islands.specs.Labels.{Labels, label_at, IsIn, relabelled, added, merged, loosened, taken_out, with_state, lowest_member, union_label, left_behind, is_loose}
use Rattle.islands.specs.Partition.{AreTogether, AreIslands}
use Rattle.islands.specs.Laws.{AddingKeeps, MergingKeeps, LooseningKeeps, TakingOutKeeps, StateChangeKeeps}
use Rattle.islands.proofs.JoinLemmas.{linked_back, joined_both, joined_one, joined_more, joined_within}
use Rattle.islands.proofs.LabelLemmas.{one_label, same_by_name, in_of, of_either, either_cases, either_is, either_one, either_to, either_first, either_second, in_is, missed, relabelled_together, union_whole, union_of_either, merged_partition, with_state_partition, added_is, added_other, added_partition, rest_of, rest_is, rest_stays, left_partition, gone_partition, none_left}

-- the same links
pub same_links : (R S : ℕ → ℕ → Type 0) (labels : Labels) → ((s t : ℕ) → R s t → S s t) → ((s t : ℕ) → S s t → R s t) → AreIslands R labels → AreIslands S labels
same_links R S labels f g w = record {
  partition = w.partition;
  together = λ s t h. w.together s t (g s t h);
  connected = λ s t l h k n. joined_more R S s t f (w.connected s t l h k n);
}

-- ---- a mover comes

pub adding : (R : ℕ → ℕ → Type 0) (labels : Labels) (slot : ℕ) → AreIslands R labels → label_at labels slot ≡ None → AreIslands R (added labels slot)
adding R labels slot w fresh =
    let off : (s : ℕ) (l : Label) → label_at labels s ≡ Some l → s ≢ slot = λ s l e k. let no : None ≡ Some l = sym fresh ∙ ap (λ n. label_at labels n) (sym k) ∙ e in cc in
    record {
      partition = added_partition labels slot w.partition fresh;
      together = λ s t h. let o = w.together s t h in
          (o.0, added_other labels slot s (off s o.0 o.1) ∙ o.1, added_other labels slot t (off t o.0 o.2) ∙ o.2);
      connected = λ s t l h k n. elim (added_is labels slot s l h) [
        | inl p ↦ elim (added_is labels slot t l k) [
          | inl q ↦ let same : s ≡ t = p.0 ∙ sym q.0 in ([], same)
          | inr q ↦ absurd (off l.name l (w.partition.named t l q.1) (ap (λ (x : Label). x.name) p.1))
        ]
        | inr p ↦ elim (added_is labels slot t l k) [
          | inl q ↦ absurd (off l.name l (w.partition.named s l p.1) (ap (λ (x : Label). x.name) q.1))
          | inr q ↦ w.connected s t l p.1 q.1 n
        ]
      ];
    }

-- ---- a merge

pub record Joins (R S : ℕ → ℕ → Type 0) (a b : ℕ) : Type 0 where
  pub kept : (s t : ℕ) → R s t → S s t
  pub gained : (s t : ℕ) → S s t → R s t ⊎ IsPairOf a b s t
  pub there : S a b
  pub back : S b a

-- a mover of either island leads to a and back
to_first : (R S : ℕ → ℕ → Type 0) (labels : Labels) (a b : ℕ) (x y : Label) → AreIslands R labels → label_at labels a ≡ Some x → label_at labels b ≡ Some y → Joins R S a b → is_loose x.state ≡ false → is_loose y.state ≡ false
    → (s : ℕ) → of_either x.name y.name (label_at labels s) ≡ true → Joined S s a × Joined S a s
to_first R S labels a b x y w e f g nx ny s h =
    let m = either_is x.name y.name (label_at labels s) h in
    elim m.2 [
      | inl k ↦ let same : m.0 ≡ x = same_by_name labels s a m.0 x w.partition m.1 e k in
          let here : label_at labels s ≡ Some x = m.1 ∙ ap (λ l. Some l) same in
          (joined_more R S s a g.kept (w.connected s a x here e nx), joined_more R S a s g.kept (w.connected a s x e here nx))
      | inr k ↦ let same : m.0 ≡ y = same_by_name labels s b m.0 y w.partition m.1 f k in
          let here : label_at labels s ≡ Some y = m.1 ∙ ap (λ l. Some l) same in (
            joined_both S s b a (joined_more R S s b g.kept (w.connected s b y here f ny)) (joined_one S b a g.back),
            joined_both S a b s (joined_one S a b g.there) (joined_more R S b s g.kept (w.connected b s y f here ny)),
          )
    ]

pub merging_labels : (R S : ℕ → ℕ → Type 0) (labels : Labels) (a b : ℕ) (x y : Label) → AreIslands R labels → label_at labels a ≡ Some x → label_at labels b ≡ Some y → Joins R S a b → AreIslands S (relabelled x.name y.name (union_label x y) labels)
merging_labels R S labels a b x y w e f g =
    let to : Label = union_label x y in
    let hit_a : of_either x.name y.name (label_at labels a) ≡ true = ap (of_either x.name y.name) e ∙ either_first x.name y.name x refl in
    let hit_b : of_either x.name y.name (label_at labels b) ≡ true = ap (of_either x.name y.name) f ∙ either_second x.name y.name y refl in
    let at_a : label_at (relabelled x.name y.name to labels) a ≡ Some to = either_to x.name y.name to labels a hit_a in
    let at_b : label_at (relabelled x.name y.name to labels) b ≡ Some to = either_to x.name y.name to labels b hit_b in
    -- a label of the union, and the same one elsewhere
    let apart : (t : ℕ) (l : Label) → l ≡ to → of_either x.name y.name (label_at labels t) ≡ false → label_at labels t ≡ Some l → ⊥ = λ t l k h q.
    false≢true (sym (sym (ap (of_either x.name y.name) (q ∙ ap (λ v. Some v) k)) ∙ h) ∙ union_of_either x y) in
    record {
      partition = merged_partition labels a b x y w.partition e f;
      together = λ s t h. elim (g.gained s t h) [
        | inl k ↦ relabelled_together x.name y.name to labels s t (w.together s t k)
        | inr k ↦ elim k [
          | inl m ↦ (to, ap (λ n. label_at (relabelled x.name y.name to labels) n) m.0 ∙ at_a, ap (λ n. label_at (relabelled x.name y.name to labels) n) m.1 ∙ at_b)
          | inr m ↦ (to, ap (λ n. label_at (relabelled x.name y.name to labels) n) m.0 ∙ at_b, ap (λ n. label_at (relabelled x.name y.name to labels) n) m.1 ∙ at_a)
        ]
      ];
      connected = λ s t l h k n. elim (either_cases x.name y.name to l labels s h) [
        | inl p ↦ elim (either_cases x.name y.name to l labels t k) [
          | inl q ↦ let P : Label → Type 0 = λ v. is_loose v.state ≡ false in
              let parts = union_whole x y (subst P p.1 n) in
              let one = to_first R S labels a b x y w e f g parts.0 parts.1 s p.0 in
              let two = to_first R S labels a b x y w e f g parts.0 parts.1 t q.0 in
              joined_both S s a t one.0 two.1
          | inr q ↦ absurd (apart t l p.1 q.0 q.1)
        ]
        | inr p ↦ elim (either_cases x.name y.name to l labels t k) [
          | inl q ↦ absurd (apart s l q.1 p.0 p.1)
          | inr q ↦ joined_more R S s t g.kept (w.connected s t l p.1 q.1 n)
        ]
      ];
    }

pub merging : (R S : ℕ → ℕ → Type 0) (labels : Labels) (a b : ℕ) (x y : Label) → AreIslands R labels → label_at labels a ≡ Some x → label_at labels b ≡ Some y → Joins R S a b → AreIslands S (merged labels a b)
unfolding merged
merging R S labels a b x y w e f g = rw (e, f) (merging_labels R S labels a b x y w e f g)

-- ---- links that are lost

-- inside an island that kept its links the movers stay joined
still_joined : (R S : ℕ → ℕ → Type 0) (labels : Labels) (l : Label) → AreIslands R labels → ((s t : ℕ) → R s t → label_at labels s ≡ Some l → S s t) → (s t : ℕ) → label_at labels s ≡ Some l → Joined R s t → Joined S s t
still_joined R S labels l w f s t e j =
    let P : ℕ → Type 0 = λ v. label_at labels v ≡ Some l in
    (joined_within R S P s t (λ u v h k. let o = w.together u v h in (f u v h k, o.2 ∙ ap (λ x. Some x) (one_label labels u o.0 l o.1 k))) e j).0

pub restating_labels : (R S : ℕ → ℕ → Type 0) (labels : Labels) (name : ℕ) (state : IslandState) → AreIslands R labels → IsIn labels name name
    → ((s t : ℕ) → S s t → R s t) → ((s t : ℕ) → R s t → S s t ⊎ IsIn labels name s)
    → ((s t : ℕ) → IsIn labels name s → IsIn labels name t → is_loose state ≡ false → Joined S s t)
    → AreIslands S (with_state name state labels)
restating_labels R S labels name state w here less lost inside =
    let to : Label = record { name = name; state = state } in
    let apart : (t : ℕ) (l : Label) → l ≡ to → of_either name name (label_at labels t) ≡ false → label_at labels t ≡ Some l → ⊥ = λ t l k h q.
    (missed name name (label_at labels t) l h q).0 (ap (λ (v : Label). v.name) k) in
    record {
      partition = with_state_partition labels name to w.partition refl here;
      together = λ s t h. relabelled_together name name to labels s t (w.together s t (less s t h));
      connected = λ s t l h k n. elim (either_cases name name to l labels s h) [
        | inl p ↦ elim (either_cases name name to l labels t k) [
          | inl q ↦ let P : Label → Type 0 = λ v. is_loose v.state ≡ false in
              inside s t (either_one name (label_at labels s) p.0) (either_one name (label_at labels t) q.0) (subst P p.1 n)
          | inr q ↦ absurd (apart t l p.1 q.0 q.1)
        ]
        | inr p ↦ elim (either_cases name name to l labels t k) [
          | inl q ↦ absurd (apart s l q.1 p.0 p.1)
          | inr q ↦ still_joined R S labels l w
              (λ u v r at. elim (lost u v r) [
                | inl m ↦ m
                | inr m ↦ absurd ((missed name name (label_at labels s) l p.0 p.1).0 (let i = in_is (label_at labels u) name m in ap (λ (x : Label). x.name) (one_label labels u l i.0 at i.1) ∙ i.2))
              ])
              s t p.1 (w.connected s t l p.1 q.1 n)
        ]
      ];
    }

pub record Drops (R S : ℕ → ℕ → Type 0) (labels : Labels) (slot : ℕ) : Type 0 where
  pub kept : (s t : ℕ) → S s t → R s t
  pub lost : (s t : ℕ) → R s t → S s t ⊎ AreTogether labels slot s

-- where the slot has no mover, nothing was lost
nothing_lost : (R S : ℕ → ℕ → Type 0) (labels : Labels) (slot : ℕ) → AreIslands R labels → Drops R S labels slot → label_at labels slot ≡ None → AreIslands S labels
nothing_lost R S labels slot w d e = same_links R S labels (λ s t h. elim (d.lost s t h) [ inl k ↦ k | inr k ↦ absurd (let no : None ≡ Some k.0 = sym e ∙ k.1 in cc) ]) d.kept w

-- a mover that is together with this one is in its island
together_in : (labels : Labels) (slot s : ℕ) (l : Label) → label_at labels slot ≡ Some l → AreTogether labels slot s → IsIn labels l.name s
together_in labels slot s l e w = in_of (label_at labels s) w.0 l.name w.2 (ap (λ (x : Label). x.name) (one_label labels slot w.0 l w.1 e))

loosening_by : (R S : ℕ → ℕ → Type 0) (labels : Labels) (slot : ℕ) (o : Option Label) → label_at labels slot ≡ o → AreIslands R labels → Drops R S labels slot → AreIslands S (option_map_or (λ (label : Label). with_state label.name Loose labels) o labels)
loosening_by R S labels slot None e w d = nothing_lost R S labels slot w d e
loosening_by R S labels slot (Some l) e w d =
    restating_labels R S labels l.name Loose w (in_of (label_at labels l.name) l l.name (w.partition.named slot l e) refl) d.kept
    (λ s t h. elim (d.lost s t h) [ inl k ↦ inl k | inr k ↦ inr (together_in labels slot s l e k) ])
    (λ s t h k n. absurd (false≢true (sym n)))

pub loosening : (R S : ℕ → ℕ → Type 0) (labels : Labels) (slot : ℕ) → AreIslands R labels → Drops R S labels slot → AreIslands S (loosened labels slot)
unfolding loosened
loosening R S labels slot w d = loosening_by R S labels slot (label_at labels slot) refl w d

-- ---- another state

pub changing_state : (R : ℕ → ℕ → Type 0) (labels : Labels) (name : ℕ) (state : IslandState) (l : Label) → AreIslands R labels → label_at labels name ≡ Some l → l.name ≡ name → is_loose l.state ≡ false → AreIslands R (with_state name state labels)
changing_state R labels name state l w e k n = restating_labels R R labels name state w (in_of (label_at labels name) l name e k) (λ s t h. h) (λ s t h. inl h)
    (λ s t h m q.
    let i = in_is (label_at labels s) name h in
    let j = in_is (label_at labels t) name m in
    let a : i.0 ≡ l = same_by_name labels s name i.0 l w.partition i.1 e (i.2 ∙ sym k) in
    let b : j.0 ≡ l = same_by_name labels t name j.0 l w.partition j.1 e (j.2 ∙ sym k) in
    w.connected s t l (i.1 ∙ ap (λ v. Some v) a) (j.1 ∙ ap (λ v. Some v) b) n)

-- ---- a mover goes

together_rest : (R S : ℕ → ℕ → Type 0) (labels : Labels) (slot s t : ℕ) → AreIslands R labels → Drops R S labels slot → ((s t : ℕ) → S s t → ((s ≡ slot) ⊎ (t ≡ slot)) → ⊥) → S s t → AreTogether (rest_of labels slot) s t
together_rest R S labels slot s t w d none h =
    let o = w.together s t (d.kept s t h) in
    (o.0, rest_stays labels slot s (λ k. none s t h (inl k)) ∙ o.1, rest_stays labels slot t (λ k. none s t h (inr k)) ∙ o.2)

connected_rest : (R S : ℕ → ℕ → Type 0) (labels : Labels) (slot : ℕ) (l : Label) → AreIslands R labels → Drops R S labels slot → label_at labels slot ≡ Some l
    → (s t : ℕ) (m : Label) → label_at (rest_of labels slot) s ≡ Some m → label_at (rest_of labels slot) t ≡ Some m → (m.name ≡ l.name → ⊥) → is_loose m.state ≡ false → Joined S s t
connected_rest R S labels slot l w d e s t m h k apart n =
    let p = rest_is labels slot l s m e h in
    let q = rest_is labels slot l t m e k in
    still_joined R S labels m w
    (λ u v r at. elim (d.lost u v r) [
      | inl x ↦ x
      | inr x ↦ absurd (apart (ap (λ (y : Label). y.name) (one_label labels u m x.0 at x.2 ∙ one_label labels slot x.0 l x.1 e)))
    ])
    s t p.1 (w.connected s t m p.1 q.1 n)

taking_out_at : (R S : ℕ → ℕ → Type 0) (labels : Labels) (slot : ℕ) (l : Label) → label_at labels slot ≡ Some l → AreIslands R labels → Drops R S labels slot → ((s t : ℕ) → S s t → ((s ≡ slot) ⊎ (t ≡ slot)) → ⊥)
    → AreIslands S (left_behind (lowest_member l.name (rest_of labels slot)) l.name (rest_of labels slot))
taking_out_at R S labels slot l e w d none =
    let rest : Labels = rest_of labels slot in
    let to : Label = record { name = lowest_member l.name rest; state = Loose } in
    elim (cases_lt (lowest_member l.name rest) (length rest)) [
      | inl found ↦ rw (lt-ltb (lowest_member l.name rest) (length rest) found) (record {
        partition = left_partition labels slot l w.partition e found;
        together = λ s t h. relabelled_together l.name l.name to rest s t (together_rest R S labels slot s t w d none h);
        connected = λ s t m h k n.
            let P : Label → Type 0 = λ v. is_loose v.state ≡ false in
            elim (either_cases l.name l.name to m rest s h) [
              | inl p ↦ absurd (let q : is_loose to.state ≡ false = subst P p.1 n in false≢true (sym q))
              | inr p ↦ elim (either_cases l.name l.name to m rest t k) [
                | inl q ↦ absurd (let r : is_loose to.state ≡ false = subst P q.1 n in false≢true (sym r))
                | inr q ↦ connected_rest R S labels slot l w d e s t m p.1 q.1 (missed l.name l.name (label_at rest s) m p.0 p.1).0 n
              ]
            ];
      })
      | inr gone ↦ rw (le-ltb (lowest_member l.name rest) (length rest) gone) (record {
        partition = gone_partition labels slot l w.partition e gone;
        together = λ s t h. together_rest R S labels slot s t w d none h;
        connected = λ s t m h k n. connected_rest R S labels slot l w d e s t m h k (none_left labels slot l gone s m h) n;
      })
    ]

taking_out_by : (R S : ℕ → ℕ → Type 0) (labels : Labels) (slot : ℕ) (o : Option Label) → label_at labels slot ≡ o → AreIslands R labels → Drops R S labels slot → ((s t : ℕ) → S s t → ((s ≡ slot) ⊎ (t ≡ slot)) → ⊥) → AreIslands S (option_map_or (λ (label : Label). left_behind (lowest_member label.name (slice_set labels slot None)) label.name (slice_set labels slot None)) o labels)
taking_out_by R S labels slot None e w d none = nothing_lost R S labels slot w d e
taking_out_by R S labels slot (Some l) e w d none = taking_out_at R S labels slot l e w d none

pub taking_out : (R S : ℕ → ℕ → Type 0) (labels : Labels) (slot : ℕ) → AreIslands R labels → Drops R S labels slot → ((s t : ℕ) → S s t → ((s ≡ slot) ⊎ (t ≡ slot)) → ⊥) → AreIslands S (taken_out labels slot)
unfolding taken_out
taking_out R S labels slot w d none = taking_out_by R S labels slot (label_at labels slot) refl w d none

-- ---- the same for links that are listed

pub adding_keeps : AddingKeeps
adding_keeps edges labels slot w fresh = adding (Linked edges) labels slot w fresh

pub merging_keeps : MergingKeeps
merging_keeps old new labels a b x y w e f g = merging (Linked old) (Linked new) labels a b x y w e f (record { kept = g.kept; gained = g.gained; there = g.there; back = linked_back new a b g.there })

pub loosening_keeps : LooseningKeeps
loosening_keeps old new labels slot w d = loosening (Linked old) (Linked new) labels slot w (record { kept = d.kept; lost = d.lost })

pub taking_out_keeps : TakingOutKeeps
taking_out_keeps old new labels slot w d none = taking_out (Linked old) (Linked new) labels slot w (record { kept = d.kept; lost = d.lost }) none

pub state_change_keeps : StateChangeKeeps
state_change_keeps edges labels name state l w e k n = changing_state (Linked edges) labels name state l w e k n
