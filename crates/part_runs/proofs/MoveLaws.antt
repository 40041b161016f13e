-- What a part keeps of a walk, and rows that change none.
use Rattle.std.proofs.Common.{◌≡◌, ℕ, Bool, true, false, cond, List, [], ◌∷◌, ◌++◌, set, refl, ap, ◌∙◌}
use Rattle.std.specs.Prelude.{nat_eq, filter}
use Rattle.std.proofs.lemmas.Bool.{and_parts, eq-eqb, or_left, or_right}
use Rattle.momenta.specs.declared.state.BodyState.{BodyState}
use Rattle.colour_solver.specs.Colour.{is_mover}
use Rattle.colour_solver.specs.ConstraintVisits.{constraint_slots}
use Rattle.part_runs.specs.Hidden.{part_at}
use Rattle.part_runs.specs.Walks.{Walk, fetched, fetched_mover, goes, touches}
use Rattle.part_runs.specs.Laws.{OwnMovesTell, RowsStay}
use Rattle.part_runs.proofs.ListLaws.{same_if}

-- ---- the moves from a part and to it

twice_if : {X : Type 0} (p : X → Bool) (t u : Bool) (x : X) (kept all : List X) → p x ≡ u → (u ≡ true → t ≡ true) → filter p kept ≡ all → filter p (cond t (x ∷ kept) kept) ≡ cond u (x ∷ all) all
twice_if p true u x kept all is both e = λ i. cond (is i) (x ∷ e i) (e i)
twice_if p false true x kept all is both e = absurd (cc (both refl))
twice_if p false false x kept all is both e = e

filter_twice : {X : Type 0} (p q : X → Bool) → ((x : X) → p x ≡ true → q x ≡ true) → (xs : List X) → filter p (filter q xs) ≡ filter p xs
filter_twice p q both [] = refl
filter_twice p q both (x ∷ xs) = twice_if p (q x) (p x) x (filter q xs) (filter p xs) refl (both x) (filter_twice p q both xs)

pub own_moves_told : OwnMovesTell
own_moves_told k moves = record {
  sent = λ v. filter_twice (goes k v) (touches k) (λ m is. or_left (nat_eq m.from k) (nat_eq m.to k) (and_parts (nat_eq m.from k) (nat_eq m.to v) is).0) moves;
  received = λ u. filter_twice (goes u k) (touches k) (λ m is. or_right (nat_eq m.from k) (nat_eq m.to k) (and_parts (nat_eq m.from u) (nat_eq m.to k) is).1) moves;
}

-- ---- rows whose bodies are there

fetched_there : (to slot : ℕ) (w : Walk) → part_at w.at slot ≡ to → fetched to slot w ≡ w
fetched_there to slot w e = ap (λ t. cond t w (record { at = set w.at slot to; moves = w.moves ++ record { slot = slot; from = part_at w.at slot; to = to } ∷ [] })) (eq-eqb (part_at w.at slot) to e)

mover_there : (states : List BodyState) (to slot : ℕ) (w : Walk) → part_at w.at slot ≡ to → fetched_mover states to slot w ≡ w
mover_there states to slot w e = ap (λ (x : Walk). cond (is_mover states slot) x w) (fetched_there to slot w e) ∙ same_if (is_mover states slot) w

pub rows_there : RowsStay
rows_there states home part r w home_a home_b at_a at_b = record {
  part_is = (λ i. cond (is_mover states (constraint_slots r).a) (home_a i) (home_b i)) ∙ same_if (is_mover states (constraint_slots r).a) part;
  walk_is = ap (fetched_mover states part (constraint_slots r).b) (mover_there states part (constraint_slots r).a w at_a) ∙ mover_there states part (constraint_slots r).b w at_b;
}
