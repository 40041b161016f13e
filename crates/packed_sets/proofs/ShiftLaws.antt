-- An id that was taken out of a set, and whether there was one.
use Rattle.std.proofs.Common.{◌≡◌, ◌≤◌, ℕ, true, false, List, ◌∷◌, length, refl, ap, subst, sym, arith, inl, inr, Option, Some, None}
use Rattle.std.specs.Option.{is_some}
use Rattle.std.proofs.lemmas.Bool.{cases_eq, false≢true}
use Rattle.std.proofs.lemmas.List.Sorted.{length_permutation}
use Rattle.packed_sets.specs.Packs.{list_at, IsTaken}

-- no set has more ids than it had
pub taken_fewer : {X : Type 0} (old new : List (List X)) (s : ℕ) (x : X) → IsTaken old new s x → (t : ℕ) → length (list_at new t) ≤ length (list_at old t)
taken_fewer {X} old new s x taken t = elim (cases_eq t s) [
  | inl q ↦
      let P : ℕ → Type 0 = λ u. length (list_at new u) ≤ length (list_at old u) in
      let e : length (x ∷ list_at new s) ≡ length (list_at old s) = length_permutation (list_at old s) (x ∷ list_at new s) taken.less in
      let less : P s = omega (arith, e) in
      subst P (sym q) less
  | inr off ↦ let e : length (list_at new t) ≡ length (list_at old t) = ap (λ (l : List X). length l) (taken.others t off) in omega (arith, e)
]

pub some_of : {X : Type 0} (o : Option X) → is_some o ≡ true → (x : X) × (o ≡ Some x)
some_of None h = absurd (false≢true h)
some_of (Some x) h = (x, refl)

pub none_of : {X : Type 0} (o : Option X) → is_some o ≡ false → o ≡ None
none_of None h = refl
none_of (Some x) h = absurd (false≢true (sym h))
