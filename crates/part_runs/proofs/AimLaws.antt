-- Where the movers of a colour's rows go, each to one part; and the slots of all movers.
use Rattle.std.proofs.Common.{◌≡◌, ◌≢◌, ℕ, zero, suc, ◌+◌, ◌<◌, Bool, true, false, cond, ◌&&◌, List, [], ◌∷◌, length, get_or, arith, refl, ap, ◌∙◌, subst}
use Rattle.std.specs.Prelude.{nat_eq, All}
use Rattle.std.proofs.lemmas.Bool.{eq-eqb, ne_eqb}
use Rattle.std.proofs.lemmas.List.Elements.{All-cons, All-nil}
use Rattle.std.proofs.lemmas.Option.{slice_get-get_or}
use Rattle.momenta.specs.declared.state.BodyState.{BodyState}
use Rattle.colour_solver.specs.declared.constraint_row.ConstraintRow.{ConstraintRow}
use Rattle.colour_solver.specs.Colour.{IsColour, ShareNone, is_mover}
use Rattle.colour_solver.specs.ConstraintVisits.{constraint_slots}
use Rattle.colour_solver.specs.States.{movers_of, moves, places_from}
use Rattle.part_runs.specs.Hidden.{AreAt, IsAt}
use Rattle.part_runs.proofs.ListLaws.{among, among_all}

-- ---- where the movers of a colour's rows go

-- whether a mover of the row stands in the slot
abbrev is_own : List BodyState → ConstraintRow → ℕ → Bool
is_own states r slot = cond (is_mover states (constraint_slots r).a && nat_eq (constraint_slots r).a slot) true (is_mover states (constraint_slots r).b && nat_eq (constraint_slots r).b slot)

-- the part of the first row that has a mover in the slot
abbrev pub aim_of : List BodyState → (ConstraintRow → ℕ) → List ConstraintRow → ℕ → ℕ
aim_of states to [] slot = 0
aim_of states to (r ∷ rs) slot = cond (is_own states r slot) (to r) (aim_of states to rs slot)

own_first : (t u : Bool) (r : Bool) → t ≡ true → u ≡ true → cond (t && u) true r ≡ true
own_first true true r h k = refl
own_first true false r h k = absurd (cc k)
own_first false u r h k = absurd (cc h)

own_second : (l t u : Bool) → t ≡ true → u ≡ true → cond l true (t && u) ≡ true
own_second true t u h k = refl
own_second false true true h k = refl
own_second false true false h k = absurd (cc k)
own_second false false u h k = absurd (cc h)

none_own : (t u : Bool) → (t ≡ true → u ≡ false) → (t && u) ≡ false
none_own true u h = h refl
none_own false u h = refl

neither_own : (l r : Bool) → l ≡ false → r ≡ false → cond l true r ≡ false
neither_own l r h k = ap (λ t. cond t true r) h ∙ k

own_a : (states : List BodyState) (r : ConstraintRow) → is_mover states (constraint_slots r).a ≡ true → is_own states r (constraint_slots r).a ≡ true
own_a states r m = own_first (is_mover states (constraint_slots r).a) (nat_eq (constraint_slots r).a (constraint_slots r).a) _ m (eq-eqb (constraint_slots r).a (constraint_slots r).a refl)

own_b : (states : List BodyState) (r : ConstraintRow) → is_mover states (constraint_slots r).b ≡ true → is_own states r (constraint_slots r).b ≡ true
own_b states r m = own_second (is_mover states (constraint_slots r).a && nat_eq (constraint_slots r).a (constraint_slots r).b) (is_mover states (constraint_slots r).b) (nat_eq (constraint_slots r).b (constraint_slots r).b) m (eq-eqb (constraint_slots r).b (constraint_slots r).b refl)

not_own : (states : List BodyState) (r : ConstraintRow) (slot : ℕ) → (is_mover states (constraint_slots r).a ≡ true → (constraint_slots r).a ≢ slot) → (is_mover states (constraint_slots r).b ≡ true → (constraint_slots r).b ≢ slot) → is_own states r slot ≡ false
not_own states r slot h k =
    neither_own (is_mover states (constraint_slots r).a && nat_eq (constraint_slots r).a slot) (is_mover states (constraint_slots r).b && nat_eq (constraint_slots r).b slot)
    (none_own (is_mover states (constraint_slots r).a) (nat_eq (constraint_slots r).a slot) (λ m. ne_eqb (constraint_slots r).a slot (h m)))
    (none_own (is_mover states (constraint_slots r).b) (nat_eq (constraint_slots r).b slot) (λ m. ne_eqb (constraint_slots r).b slot (k m)))

-- the first row of a colour shares no mover with the others
head_alone : (states : List BodyState) (r : ConstraintRow) (rs : List ConstraintRow) → IsColour constraint_slots states (r ∷ rs) → All (ShareNone constraint_slots states r) rs
head_alone states r rs colour k d lt = colour zero (suc k) r (get_or rs k d) (omega arith) refl (slice_get-get_or rs k d lt)

rest_colour : (states : List BodyState) (r : ConstraintRow) (rs : List ConstraintRow) → IsColour constraint_slots states (r ∷ rs) → IsColour constraint_slots states rs
rest_colour states r rs colour i j q e lt at_i at_j = colour (suc i) (suc j) q e (omega (arith, lt)) at_i at_j

aims_on : (states : List BodyState) (to : ConstraintRow → ℕ) (r : ConstraintRow) (rs all : List ConstraintRow) → All (ShareNone constraint_slots states r) all → AreAt constraint_slots (aim_of states to rs) to states all → AreAt constraint_slots (aim_of states to (r ∷ rs)) to states all
aims_on states to r rs all alone at k d lt =
    let e : ConstraintRow = get_or all k d in
    let none = alone k d lt in
    let here = at k d lt in
    record {
      a = λ m. ap (λ t. cond t (to r) (aim_of states to rs (constraint_slots e).a)) (not_own states r (constraint_slots e).a none.a_a none.b_a) ∙ here.a m;
      b = λ m. ap (λ t. cond t (to r) (aim_of states to rs (constraint_slots e).b)) (not_own states r (constraint_slots e).b none.a_b none.b_b) ∙ here.b m;
    }

pub colour_aims : (states : List BodyState) (to : ConstraintRow → ℕ) (rs : List ConstraintRow) → IsColour constraint_slots states rs → AreAt constraint_slots (aim_of states to rs) to states rs
colour_aims states to [] colour = All-nil (IsAt constraint_slots (aim_of states to []) to states)
colour_aims states to (r ∷ rs) colour =
    All-cons (IsAt constraint_slots (aim_of states to (r ∷ rs)) to states) r rs
    (record {
      a = λ m. ap (λ t. cond t (to r) (aim_of states to rs (constraint_slots r).a)) (own_a states r m);
      b = λ m. ap (λ t. cond t (to r) (aim_of states to rs (constraint_slots r).b)) (own_b states r m);
    })
    (aims_on states to r rs rs (head_alone states r rs colour) (colour_aims states to rs (rest_colour states r rs colour)))

-- ---- the movers' slots

either_of : (t r : Bool) → r ≡ true → cond t true r ≡ true
either_of true r e = refl
either_of false r e = e

here_if : (t : Bool) (n : ℕ) (slots : List ℕ) → t ≡ true → among (cond t (n ∷ slots) slots) n ≡ true
here_if true n slots e = ap (λ u. cond u true (among slots n)) (eq-eqb n n refl)
here_if false n slots e = absurd (cc e)

further_if : (t : Bool) (n j : ℕ) (slots : List ℕ) → among slots j ≡ true → among (cond t (n ∷ slots) slots) j ≡ true
further_if true n j slots e = either_of (nat_eq n j) (among slots j) e
further_if false n j slots e = e

mover_among : (ss : List BodyState) (n j k : ℕ) → k ≡ n + j → is_mover ss j ≡ true → among (places_from moves n ss) k ≡ true
mover_among [] n j k e m = absurd (cc m)
mover_among (s ∷ ss) n zero k e m = let same : n ≡ k = omega (arith, e) in subst (λ (x : ℕ). among (places_from moves n (s ∷ ss)) x ≡ true) same (here_if (moves s) n (places_from moves (suc n) ss) m)
mover_among (s ∷ ss) n (suc j) k e m = further_if (moves s) n k (places_from moves (suc n) ss) (mover_among ss (suc n) j k (omega (arith, e)) m)

-- what holds of each slot with a mover holds of all that are listed
places_if : (P : ℕ → Type 0) (t : Bool) (n : ℕ) (slots : List ℕ) → (t ≡ true → P n) → All P slots → All P (cond t (n ∷ slots) slots)
places_if P true n slots here rest = All-cons P n slots (here refl) rest
places_if P false n slots here rest = rest

places_all : (P : ℕ → Type 0) (n : ℕ) (ss : List BodyState) → ((j k : ℕ) → k ≡ n + j → j < length ss → is_mover ss j ≡ true → P k) → All P (places_from moves n ss)
places_all P n [] h = All-nil P
places_all P n (s ∷ ss) h =
    places_if P (moves s) n (places_from moves (suc n) ss) (λ m. h zero n (omega arith) (omega arith) m)
    (places_all P (suc n) ss (λ j k e lt m. h (suc j) k (omega (arith, e)) (omega (arith, lt)) m))

pub movers_within : (ss : List BodyState) → All (λ slot. slot < length ss) (movers_of ss)
movers_within ss = places_all (λ slot. slot < length ss) 0 ss (λ j k e lt m. omega (arith, e, lt))

pub movers_move : (ss : List BodyState) → All (λ slot. is_mover ss slot ≡ true) (movers_of ss)
movers_move ss = places_all (λ slot. is_mover ss slot ≡ true) 0 ss (λ j k e lt m. let same : j ≡ k = omega (arith, e) in subst (λ (x : ℕ). is_mover ss x ≡ true) same m)

pub all_movers : (P : ℕ → Type 0) (ss : List BodyState) → All P (movers_of ss) → (slot : ℕ) → is_mover ss slot ≡ true → P slot
all_movers P ss all slot m = among_all P (movers_of ss) slot all (mover_among ss 0 slot slot (omega arith) m)
