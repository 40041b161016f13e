-- Who is awake, and which constraints have a mover of an island.
use Rattle.std.proofs.Common.{◌≡◌, ℕ, ◌⊎◌, Bool, true, false, not, cond, ◌&&◌, ◌||◌, Option, Some, None, inl, inr, refl, sym, ap, ◌∙◌}
use Rattle.std.specs.Prelude.{Contains}
use Rattle.std.proofs.lemmas.Bool.{false≢true}
use Rattle.std.specs.Option.{option_map_or}
use Rattle.graph_colours.specs.declared.member.Member.{Member}
use Rattle.islands.specs.declared.label.IslandState.{IslandState}
use Rattle.islands.specs.declared.label.IslandState.TheVariants.{Whole, Loose}
use Rattle.islands.specs.declared.label.Label.{Label}
use Rattle.islands.specs.Labels.{Labels, label_at, is_in, IsIn, is_asleep, is_loose, with_state, union_label, merged, loosened}
use Rattle.islands.specs.Partition.{IsPartition, AreTogether}
use Rattle.islands.proofs.LabelLemmas.{in_is, same_by_name, of_either, either_case, either_is, either_to, others_stay, one_either}
use Rattle.islands.proofs.SplitLemmas.{IsLabelled, still_labelled}
use Rattle.sleep_wake.specs.Acting.{Acting, IsConsistent, awake_label, is_mover_awake}
use Rattle.sleep_wake.specs.Waking.{second_in, has_mover_of}
use Rattle.sleep_wake.specs.Changes.{parted, united}
use Rattle.sleep_wake.proofs.ListLemmas.{in_links}

pub and_is : (x y : Bool) → (x && y) ≡ true → (x ≡ true) × (y ≡ true)
and_is true y h = (refl, h)
and_is false y h = absurd (false≢true h)

-- ---- the movers of a constraint

pub all_awake : (labels : Labels) (first : ℕ) (o : Option ℕ) → is_mover_awake labels first ≡ true → ((b : ℕ) → o ≡ Some b → is_mover_awake labels b ≡ true) → (is_mover_awake labels first && option_map_or (is_mover_awake labels) o true) ≡ true
all_awake labels first None h k = rw h refl
all_awake labels first (Some b) h k = rw (h, k b refl) refl

pub awake_first : (labels : Labels) (first : ℕ) (o : Option ℕ) → (is_mover_awake labels first && option_map_or (is_mover_awake labels) o true) ≡ true → is_mover_awake labels first ≡ true
awake_first labels first o h = (and_is (is_mover_awake labels first) (option_map_or (is_mover_awake labels) o true) h).0

pub same_awake : (labels new : Labels) (first : ℕ) (o : Option ℕ) → is_mover_awake new first ≡ is_mover_awake labels first → ((b : ℕ) → o ≡ Some b → is_mover_awake new b ≡ is_mover_awake labels b) → (is_mover_awake new first && option_map_or (is_mover_awake new) o true) ≡ (is_mover_awake labels first && option_map_or (is_mover_awake labels) o true)
same_awake labels new first None h k = rw h refl
same_awake labels new first (Some b) h k = rw (h, k b refl) refl

pub record AllIn (labels : Labels) (name first : ℕ) (o : Option ℕ) : Type 0 where
  pub one : IsIn labels name first
  pub two : (b : ℕ) → o ≡ Some b → IsIn labels name b

pub record NoneIn (labels : Labels) (name first : ℕ) (o : Option ℕ) : Type 0 where
  pub one : is_in (label_at labels first) name ≡ false
  pub two : (b : ℕ) → o ≡ Some b → is_in (label_at labels b) name ≡ false

pub both_in : (labels : Labels) (name a b : ℕ) → AreTogether labels a b → is_in (label_at labels b) name ≡ is_in (label_at labels a) name
both_in labels name a b w = ap (λ o. is_in o name) (w.2 ∙ sym w.1)

-- the movers are all in the island, or none is
in_or_none : (labels : Labels) (name first : ℕ) (o : Option ℕ) (t : Bool) → is_in (label_at labels first) name ≡ t → ((b : ℕ) → o ≡ Some b → AreTogether labels first b)
    → (((is_in (label_at labels first) name || second_in labels name o) ≡ true) × AllIn labels name first o) ⊎ (((is_in (label_at labels first) name || second_in labels name o) ≡ false) × NoneIn labels name first o)
in_or_none labels name first None true h w = inl (rw h refl, record { one = h; two = λ b e. absurd (let no : None ≡ Some b = e in cc) })
in_or_none labels name first None false h w = inr (rw h refl, record { one = h; two = λ b e. absurd (let no : None ≡ Some b = e in cc) })
in_or_none labels name first (Some c) true h w = inl (rw h refl, record { one = h; two = λ b e. both_in labels name first b (w b e) ∙ h })
in_or_none labels name first (Some c) false h w = let off = both_in labels name first c (w c refl) ∙ h in inr (rw (h, off) refl, record { one = h; two = λ b e. both_in labels name first b (w b e) ∙ h })

pub tie_together : {C : Type 0} (number : C → ℕ) (s : Acting C) (m : Member C) (b : ℕ) → IsConsistent number s → Contains s.ties m → m.movers.second ≡ Some b → AreTogether s.labels m.movers.first b
tie_together number s m b w h e = w.islands.together m.movers.first b (inl (in_links s.ties m m.movers.first b h refl e))

pub of_island : {C : Type 0} (number : C → ℕ) (s : Acting C) (name : ℕ) (m : Member C) → IsConsistent number s → Contains s.ties m
    → ((has_mover_of s.labels name m ≡ true) × AllIn s.labels name m.movers.first m.movers.second) ⊎ ((has_mover_of s.labels name m ≡ false) × NoneIn s.labels name m.movers.first m.movers.second)
of_island number s name m w h = in_or_none s.labels name m.movers.first m.movers.second (is_in (label_at s.labels m.movers.first) name) refl (λ b e. tie_together number s m b w h e)

-- ---- an island with another state

miss_one : (n : ℕ) (o : Option Label) → is_in o n ≡ false → of_either n n o ≡ false
miss_one n o h = rw h refl

pub awake_in : (labels : Labels) (name : ℕ) (state : IslandState) (s : ℕ) → IsIn labels name s → is_mover_awake (with_state name state labels) s ≡ not (is_asleep state)
awake_in labels name state s h = ap awake_label (either_to name name (record { name = name; state = state }) labels s (one_either name (label_at labels s) h))

pub awake_out : (labels : Labels) (name : ℕ) (state : IslandState) (s : ℕ) → is_in (label_at labels s) name ≡ false → is_mover_awake (with_state name state labels) s ≡ is_mover_awake labels s
awake_out labels name state s h = ap awake_label (others_stay name name (record { name = name; state = state }) labels s (miss_one name (label_at labels s) h))

pub stated_labelled : (labels : Labels) (name : ℕ) (state : IslandState) (s : ℕ) → IsLabelled labels s → IsLabelled (with_state name state labels) s
stated_labelled labels name state s h = elim (either_case name name (label_at labels s)) [
  | inl k ↦ (record { name = name; state = state }, either_to name name (record { name = name; state = state }) labels s k)
  | inr k ↦ (h.0, others_stay name name (record { name = name; state = state }) labels s k ∙ h.1)
]

-- those of the island are as its label says
pub awake_as : (labels : Labels) (name s : ℕ) (l : Label) → IsPartition labels → label_at labels name ≡ Some l → l.name ≡ name → IsIn labels name s → is_mover_awake labels s ≡ not (is_asleep l.state)
awake_as labels name s l p e k h =
    let i = in_is (label_at labels s) name h in
    let same : i.0 ≡ l = same_by_name labels s name i.0 l p i.1 e (i.2 ∙ sym k) in
    ap awake_label i.1 ∙ ap (λ (x : Label). not (is_asleep x.state)) same

pub in_or_out : (labels : Labels) (name s : ℕ) → (is_in (label_at labels s) name ≡ true) ⊎ (is_in (label_at labels s) name ≡ false)
in_or_out labels name s = elim (is_in (label_at labels s) name) as (λ t. (t ≡ true) ⊎ (t ≡ false)) [ true ↦ inl refl | false ↦ inr refl ]

-- an awake island that gets loose leaves all as they are
loosened_awake_by : (labels : Labels) (first t : ℕ) (o : Option Label) → label_at labels first ≡ o → IsPartition labels → is_mover_awake labels first ≡ true → is_mover_awake (option_map_or (λ (label : Label). with_state label.name Loose labels) o labels) t ≡ is_mover_awake labels t
loosened_awake_by labels first t None e p h = refl
loosened_awake_by labels first t (Some l) e p h =
    let up : not (is_asleep l.state) ≡ true = sym (ap awake_label e) ∙ h in
    elim (in_or_out labels l.name t) [
      | inl k ↦ awake_in labels l.name Loose t k ∙ sym (awake_as labels l.name t l p (p.named first l e) refl k ∙ up)
      | inr k ↦ awake_out labels l.name Loose t k
    ]

pub parted_awake : (labels : Labels) (first t : ℕ) (o : Option ℕ) → IsPartition labels → is_mover_awake labels first ≡ true → is_mover_awake (parted o first labels) t ≡ is_mover_awake labels t
unfolding loosened
parted_awake labels first t None p h = refl
parted_awake labels first t (Some b) p h = loosened_awake_by labels first t (label_at labels first) refl p h

loosened_labelled_by : (labels : Labels) (t : ℕ) (o : Option Label) → IsLabelled labels t → IsLabelled (option_map_or (λ (label : Label). with_state label.name Loose labels) o labels) t
loosened_labelled_by labels t None h = h
loosened_labelled_by labels t (Some l) h = stated_labelled labels l.name Loose t h

pub parted_labelled : (labels : Labels) (first t : ℕ) (o : Option ℕ) → IsLabelled labels t → IsLabelled (parted o first labels) t
unfolding loosened
parted_labelled labels first t None h = h
parted_labelled labels first t (Some b) h = loosened_labelled_by labels t (label_at labels first) h

-- two awake islands that merge do too
union_awake : (t : Bool) → not (is_asleep (cond t Loose Whole)) ≡ true
union_awake true = refl
union_awake false = refl

merged_awake : (labels : Labels) (a b t : ℕ) (x y : Label) → IsPartition labels → label_at labels a ≡ Some x → label_at labels b ≡ Some y → is_mover_awake labels a ≡ true → is_mover_awake labels b ≡ true → is_mover_awake (merged labels a b) t ≡ is_mover_awake labels t
unfolding merged
merged_awake labels a b t x y p e f h k =
    let up_x : not (is_asleep x.state) ≡ true = sym (ap awake_label e) ∙ h in
    let up_y : not (is_asleep y.state) ≡ true = sym (ap awake_label f) ∙ k in
    rw (e, f) (elim (either_case x.name y.name (label_at labels t)) [
      | inl q ↦ let m = either_is x.name y.name (label_at labels t) q in
          let was : is_mover_awake labels t ≡ true = ap awake_label m.1 ∙ elim m.2 [
            | inl n ↦ ap (λ (v : Label). not (is_asleep v.state)) (same_by_name labels t a m.0 x p m.1 e n) ∙ up_x
            | inr n ↦ ap (λ (v : Label). not (is_asleep v.state)) (same_by_name labels t b m.0 y p m.1 f n) ∙ up_y
          ] in
          ap awake_label (either_to x.name y.name (union_label x y) labels t q) ∙ union_awake (is_loose x.state || is_loose y.state) ∙ sym was
      | inr q ↦ ap awake_label (others_stay x.name y.name (union_label x y) labels t q)
    ])

pub united_awake : (labels : Labels) (first t : ℕ) (o : Option ℕ) → IsPartition labels → IsLabelled labels first → ((b : ℕ) → o ≡ Some b → IsLabelled labels b) → is_mover_awake labels first ≡ true → ((b : ℕ) → o ≡ Some b → is_mover_awake labels b ≡ true) → is_mover_awake (united o first labels) t ≡ is_mover_awake labels t
united_awake labels first t None p i j h k = refl
united_awake labels first t (Some b) p i j h k = let y = j b refl in merged_awake labels first b t i.0 y.0 p i.1 y.1 h (k b refl)

pub united_labelled : (labels : Labels) (first t : ℕ) (o : Option ℕ) → IsLabelled labels t → IsLabelled (united o first labels) t
united_labelled labels first t None h = h
united_labelled labels first t (Some b) h = still_labelled labels first b t h
