-- Bodies that are read back, as far as they have been.
use Rattle.std.proofs.Common.{◌≡◌, ℕ, zero, suc, ◌+◌, ◌<◌, ◌≤◌, cond, List, [], ◌∷◌, ◌++◌, length, take, drop, get_or, set, arith, inl, inr, refl, subst, sym, ap, ◌∙◌}
use Rattle.std.proofs.lemmas.List.{append-nil, drop_all, take_all}
use Rattle.std.proofs.lemmas.Bool.{cases_lt}
use Rattle.momenta.specs.declared.state.BodyState.{BodyState}
use Rattle.colour_solver.specs.States.{nobody}
use Rattle.part_runs.specs.ReadBack.{AreBodiesBack, source}

-- ---- bodies

-- what stands at a place that hasn't been read yet
pub first_there : (first now : List BodyState) (i : ℕ) (d : BodyState) → i < length first → length now ≡ length first → get_or (take i now ++ drop i first) i d ≡ get_or first i d
first_there [] now i d lt long = absurd (omega (arith, lt))
first_there (s ∷ first) [] i d lt long = absurd (cc long)
first_there (s ∷ first) (n ∷ now) zero d lt long = refl
first_there (s ∷ first) (n ∷ now) (suc i) d lt long = first_there first now i d (omega (arith, lt)) (omega (arith, long))

put_next : {R : Type 0} (first now : List R) (i : ℕ) (d : R) → i < length first → length now ≡ length first → set (take i now ++ drop i first) i (get_or now i d) ≡ take (suc i) now ++ drop (suc i) first
put_next [] now i d lt long = absurd (omega (arith, lt))
put_next (s ∷ first) [] i d lt long = absurd (cc long)
put_next (s ∷ first) (n ∷ now) zero d lt long = refl
put_next {R} (s ∷ first) (n ∷ now) (suc i) d lt long = ap (λ (l : List R). n ∷ l) (put_next first now i d (omega (arith, lt)) (omega (arith, long)))

pub bodies_more : (first now states : List BodyState) (i : ℕ) (s : BodyState) → i < length first → length now ≡ length first → states ≡ take i now ++ drop i first → s ≡ get_or now i nobody → set states i s ≡ take (i + 1) now ++ drop (i + 1) first
bodies_more first now states i s lt long known is =
    let on : i + 1 ≡ suc i = omega arith in
    (λ j. set (known j) i (is j)) ∙ put_next first now i nobody lt long ∙ ap (λ (n : ℕ). take n now ++ drop n first) (sym on)

-- what stands at a place stands there, whatever else would
pub there_is : {X : Type 0} (xs : List X) (i : ℕ) (x d e : X) → i < length xs → x ≡ get_or xs i d → x ≡ get_or xs i e
there_is [] i x d e lt is = absurd (omega (arith, lt))
there_is (y ∷ ys) zero x d e lt is = is
there_is (y ∷ ys) (suc i) x d e lt is = there_is ys i x d e (omega (arith, lt)) is

pub below_more : (P : ℕ → Type 0) (n : ℕ) → ((k : ℕ) → k < n → P k) → P n → (k : ℕ) → k < n + 1 → P k
below_more P n known here k lt = elim (cases_lt k n) [
  | inl low ↦ known k low
  | inr high ↦ let same : n ≡ k = omega (arith, lt, high) in subst P same here
]

-- ---- bodies, one further and all

pub read_body : (g : ℕ → ℕ) (part : ℕ → List BodyState) (first now states : List BodyState) (i q v : ℕ) (state body : BodyState) → i < length first → length now ≡ length first → AreBodiesBack g first part now → states ≡ take i now ++ drop i first
    → state ≡ get_or states i state → v ≡ g i → q ≡ cond state.movable v 0 → body ≡ get_or (part q) i nobody → set states i body ≡ take (i + 1) now ++ drop (i + 1) first
read_body g part first now states i q v state body lt long back known here share is made =
    let at : state ≡ get_or first i state = here ∙ ap (λ (l : List BodyState). get_or l i state) known ∙ first_there first now i state lt long in
    let there : state ≡ get_or first i nobody = there_is first i state state nobody lt at in
    let q_is : q ≡ source g first i = is ∙ (λ j. cond (there j).movable (share j) 0) in
    bodies_more first now states i body lt long known (made ∙ ap (λ (k : ℕ). get_or (part k) i nobody) q_is ∙ sym (back i))

pub read_all : {R : Type 0} (first now states : List R) (i : ℕ) → length first ≤ i → length now ≡ length first → states ≡ take i now ++ drop i first → states ≡ now
read_all first now states i le long known =
    let whole : length now ≤ i = omega (arith, le, long) in
    known ∙ (λ j. take_all i now whole j ++ drop_all i first le j) ∙ append-nil now
