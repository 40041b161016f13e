-- What the list of least timers has once a timer more was seen, or some were forgotten, and which islands are ready by
-- it.
use Rattle.std.proofs.Common.{◌≡◌, ℕ, suc, ◌<◌, ◌==◌, ◌&&◌, ◌⊎◌, Bool, true, false, cond, List, [], ◌∷◌, get_or, length, slice_set, Option, None, Some, refl, sym, ap, ◌∙◌, inl, inr, subst, arith}
use Rattle.std.specs.Prelude.{nat_lt, Contains}
use Rattle.std.proofs.lemmas.Bool.{cases_lt, cases_eq, false≢true, eqb-true, eq-eqb}
use Rattle.std.proofs.lemmas.List.{get_or_past, get_or-set_same, get_or-set_other, length-set}
use Rattle.islands.specs.declared.label.Label.{Label}
use Rattle.islands.specs.Labels.{Labels, is_in}
use Rattle.islands.proofs.JoinLemmas.{contains_cases}
use Rattle.sleep_wake.specs.SleepPhase.{lesser, least_timer, ready_from, ready}
use Rattle.sleep_wake.specs.Resting.{least_at, lowered, noted, forgotten, is_ready_island, ready_after, ready_names}
use Rattle.sleep_wake.proofs.ListLemmas.{none_in}

-- ---- a timer more

lowered_by : (leasts : List (Option ℕ)) (own name t : ℕ) (b : Bool) → (own == name) ≡ b → own < length leasts → least_at (lowered leasts own t) name ≡ cond b (Some (lesser t (least_at leasts name))) (least_at leasts name)
lowered_by leasts own name t true e lt =
    let same : own ≡ name = eqb-true own name e in
    let P : ℕ → Type 0 = λ v. least_at (lowered leasts own t) v ≡ Some (lesser t (least_at leasts v)) in
    subst P same (get_or-set_same leasts own (Some (lesser t (least_at leasts own))) None lt)
lowered_by leasts own name t false e lt =
    get_or-set_other leasts own name (Some (lesser t (least_at leasts own))) None (λ k. false≢true (sym e ∙ eq-eqb own name (sym k)))

-- the least timer of an island, with that of one slot more, if the mover there is of it and has a timer
abbrev pub with_timer : Bool → List ℕ → ℕ → Option ℕ → Option ℕ
with_timer mine timers slot least = cond (mine && nat_lt slot (length timers)) (Some (lesser (get_or timers slot 0) least)) least

and_true : (x : Bool) (a b : Option ℕ) → cond x a b ≡ cond (x && true) a b
and_true true a b = refl
and_true false a b = refl

and_false : (x : Bool) (a b : Option ℕ) → b ≡ cond (x && false) a b
and_false true a b = refl
and_false false a b = refl

noted_by : (leasts : List (Option ℕ)) (own name t : ℕ) (b : Bool) → own < length leasts → least_at (cond b (lowered leasts own t) leasts) name ≡ cond ((own == name) && b) (Some (lesser t (least_at leasts name))) (least_at leasts name)
noted_by leasts own name t true lt = lowered_by leasts own name t (own == name) refl lt ∙ and_true (own == name) (Some (lesser t (least_at leasts name))) (least_at leasts name)
noted_by leasts own name t false lt = and_false (own == name) (Some (lesser t (least_at leasts name))) (least_at leasts name)

pub noted_at : (o : Option Label) (timers : List ℕ) (slot : ℕ) (leasts : List (Option ℕ)) (name : ℕ) → ((l : Label) → o ≡ Some l → l.name < length leasts) → least_at (noted o timers slot leasts) name ≡ with_timer (is_in o name) timers slot (least_at leasts name)
noted_at None timers slot leasts name short = refl
noted_at (Some l) timers slot leasts name short = noted_by leasts l.name name (get_or timers slot 0) (nat_lt slot (length timers)) (short l refl)

long_if : (leasts : List (Option ℕ)) (own t : ℕ) (b : Bool) → length (cond b (lowered leasts own t) leasts) ≡ length leasts
long_if leasts own t true = length-set leasts own (Some (lesser t (least_at leasts own)))
long_if leasts own t false = refl

pub noted_long : (o : Option Label) (timers : List ℕ) (slot : ℕ) (leasts : List (Option ℕ)) → length (noted o timers slot leasts) ≡ length leasts
noted_long None timers slot leasts = refl
noted_long (Some l) timers slot leasts = long_if leasts l.name (get_or timers slot 0) (nat_lt slot (length timers))

-- ---- what is forgotten

set_none_here : (leasts : List (Option ℕ)) (slot : ℕ) → least_at (slice_set leasts slot None) slot ≡ None
set_none_here leasts slot = elim (cases_lt slot (length leasts)) [
  | inl h ↦ get_or-set_same leasts slot None None h
  | inr h ↦ let long : length (slice_set leasts slot None) ≡ length leasts = length-set leasts slot None in get_or_past (slice_set leasts slot None) slot None (omega (arith, h, long))
]

set_none : (leasts : List (Option ℕ)) (slot name : ℕ) → least_at leasts name ≡ None → least_at (slice_set leasts slot None) name ≡ None
set_none leasts slot name h = elim (cases_eq name slot) [
  | inl k ↦ let P : ℕ → Type 0 = λ v. least_at (slice_set leasts slot None) v ≡ None in subst P (sym k) (set_none_here leasts slot)
  | inr k ↦ get_or-set_other leasts slot name None None k ∙ h
]

pub forgotten_at : (slots : List ℕ) (leasts : List (Option ℕ)) (name : ℕ) → Contains slots name ⊎ (least_at leasts name ≡ None) → least_at (forgotten slots leasts) name ≡ None
forgotten_at [] leasts name h = elim h [ inl k ↦ absurd (none_in name k) | inr k ↦ k ]
forgotten_at (slot ∷ slots) leasts name h = forgotten_at slots (slice_set leasts slot None) name (elim h [
  | inl k ↦ elim (contains_cases slot slots name k) [
    | inl q ↦ let P : ℕ → Type 0 = λ v. least_at (slice_set leasts slot None) v ≡ None in inr (subst P q (set_none_here leasts slot))
    | inr q ↦ inl q
  ]
  | inr k ↦ inr (set_none leasts slot name k)
])

pub forgotten_long : (slots : List ℕ) (leasts : List (Option ℕ)) → length (forgotten slots leasts) ≡ length leasts
forgotten_long [] leasts = refl
forgotten_long (slot ∷ slots) leasts = forgotten_long slots (slice_set leasts slot None) ∙ length-set leasts slot None

-- ---- by the least timers of the definition the same islands are ready

abbrev pub timer_in : Labels → List ℕ → ℕ → Option ℕ
timer_in labels timers name = least_timer name labels timers

ready_is : (loose : Bool) (labels : Labels) (timers : List ℕ) (slot : ℕ) (rest : Labels) → ready_after loose (timer_in labels timers) slot rest ≡ ready_from loose labels timers slot rest
ready_is loose labels timers slot [] = refl
ready_is loose labels timers slot (o ∷ rest) = ap (λ (ns : List ℕ). cond (is_ready_island loose (timer_in labels timers) slot o) (slot ∷ ns) ns) (ready_is loose labels timers (suc slot) rest)

pub ready_names_are : (loose : Bool) (labels : Labels) (timers : List ℕ) → ready_names loose (timer_in labels timers) labels ≡ ready loose labels timers
ready_names_are loose labels timers = ready_is loose labels timers 0 labels
