-- Flags that are taken away, slot by slot.
use Rattle.std.proofs.Common.{◌≡◌, ◌≢◌, ℕ, zero, suc, ◌+◌, ◌<◌, ◌≤◌, Bool, false, List, [], ◌∷◌, length, get_or, inl, inr, refl, sym, ap, ◌∙◌, subst, arith}
use Rattle.std.specs.Prelude.{slice_get, slice_set}
use Rattle.std.proofs.lemmas.Bool.{cases_eq}
use Rattle.world_core.specs.Quiet.{AreCleared, is_flagged_in}

-- the slots in the first places aren't flagged
abbrev pub AreFirstCleared : List ℕ → ℕ → List Bool → Type 0
AreFirstCleared slots place flags = (k d : ℕ) → k < place → is_flagged_in (slice_get flags (get_or slots k d)) ≡ false

cleared_here : (flags : List Bool) (slot : ℕ) → is_flagged_in (slice_get (slice_set flags slot false) slot) ≡ false
cleared_here [] slot = refl
cleared_here (t ∷ flags) zero = refl
cleared_here (t ∷ flags) (suc slot) = cleared_here flags slot

cleared_there : (flags : List Bool) (slot name : ℕ) → name ≢ slot → slice_get (slice_set flags slot false) name ≡ slice_get flags name
cleared_there [] slot name off = refl
cleared_there (t ∷ flags) zero zero off = absurd (off refl)
cleared_there (t ∷ flags) zero (suc name) off = refl
cleared_there (t ∷ flags) (suc slot) zero off = refl
cleared_there (t ∷ flags) (suc slot) (suc name) off = cleared_there flags slot name (λ e. off (ap suc e))

cleared_still : (flags : List Bool) (slot name : ℕ) → is_flagged_in (slice_get flags name) ≡ false → is_flagged_in (slice_get (slice_set flags slot false) name) ≡ false
cleared_still flags slot name h = elim (cases_eq name slot) [
  | inl same ↦ subst (λ (n : ℕ). is_flagged_in (slice_get (slice_set flags slot false) n) ≡ false) (sym same) (cleared_here flags slot)
  | inr off ↦ ap is_flagged_in (cleared_there flags slot name off) ∙ h
]

pub cleared_none : (slots : List ℕ) (flags : List Bool) → AreFirstCleared slots 0 flags
cleared_none slots flags k d h = absurd (omega (arith, h))

pub cleared_more : (slots : List ℕ) (flags new : List Bool) (place slot : ℕ) → ((d : ℕ) → get_or slots place d ≡ slot) → new ≡ slice_set flags slot false → AreFirstCleared slots place flags → AreFirstCleared slots (place + 1) new
cleared_more slots flags new place slot at is first k d h =
    subst (λ (l : List Bool). is_flagged_in (slice_get l (get_or slots k d)) ≡ false) (sym is) (elim (cases_eq k place) [
      | inl same ↦ subst (λ (n : ℕ). is_flagged_in (slice_get (slice_set flags slot false) n) ≡ false) (sym (ap (λ (j : ℕ). get_or slots j d) same ∙ at d)) (cleared_here flags slot)
      | inr off ↦ cleared_still flags slot (get_or slots k d) (first k d (omega (arith, h, off)))
    ])

pub cleared_all : (slots : List ℕ) (flags : List Bool) (place : ℕ) → length slots ≤ place → AreFirstCleared slots place flags → AreCleared slots flags
cleared_all slots flags place h first slot c =
    let lt = c.1 in
    subst (λ (s : ℕ). is_flagged_in (slice_get flags s) ≡ false) c.2 (first c.0 slot (omega (arith, h, lt)))
