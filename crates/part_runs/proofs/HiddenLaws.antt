-- What a part sees of bodies: slot by slot, after one is written or all are changed, and in sum.
use Rattle.std.proofs.Common.{◌≡◌, ℕ, zero, suc, ◌+◌, Bool, true, false, cond, List, [], ◌∷◌, Some, length, map, get_or, set, arith, refl, sym, ap, ap₂, ◌∙◌}
use Rattle.std.proofs.lemmas.List.{length-map}
use Rattle.std.specs.Prelude.{nat_eq, filter}
use Rattle.std.specs.List.{slice_get}
use Rattle.fixed_geom.specs.Vectors.{plus, zero_vector}
use Rattle.fixed_geom.specs.declared.vectors.Vec2.{Vec2}
use Rattle.momenta.specs.declared.state.BodyState.{BodyState}
use Rattle.momenta.specs.ImpulseBounds.{IsSameBody}
use Rattle.colour_solver.specs.States.{AreSameBeside, carried_of, is_carried, movers_of, moves, nobody, places_from}
use Rattle.part_runs.specs.Hidden.{ArePartsBelow, hidden, hidden_from, seen, sum_below}
use Rattle.part_runs.proofs.SumLaws.{added_apart, one_of, sum_alike, sum_none, sum_one}

-- ---- one body

own_if : (m o : Bool) (s : BodyState) → (m ≡ true → o ≡ true) → cond m (cond o s nobody) s ≡ s
own_if true true s own = refl
own_if true false s own = absurd (cc (own refl))
own_if false o s own = refl

-- a mover of the part, or a body that doesn't move, is seen as it is
pub seen_own : (g : ℕ → ℕ) (k n : ℕ) (s : BodyState) → (s.movable ≡ true → nat_eq (g n) k ≡ true) → seen g k n s ≡ s
seen_own g k n s own = own_if s.movable (nat_eq (g n) k) s own

other_if : (m o : Bool) (s t : BodyState) → s.movable ≡ m → IsSameBody s t → (m ≡ true → o ≡ false) → cond t.movable (cond o t nobody) t ≡ cond s.movable (cond o s nobody) s
other_if true true s t is same other = absurd (cc (other refl))
other_if true false s t is same other = let now : t.movable ≡ true = same.movable ∙ is in rw (now, is) refl
other_if false o s t is same other = ap (λ (b : BodyState). cond b.movable (cond o b nobody) b) (same.immovable is)

-- whatever happens to a mover of another part, nobody is seen
pub seen_other : (g : ℕ → ℕ) (k n : ℕ) (s t : BodyState) → IsSameBody s t → (s.movable ≡ true → nat_eq (g n) k ≡ false) → seen g k n t ≡ seen g k n s
seen_other g k n s t same other = other_if s.movable (nat_eq (g n) k) s t refl same other

-- ---- slots

pub get-hidden_from : (g : ℕ → ℕ) (k n i j : ℕ) (ss : List BodyState) → j ≡ n + i → get_or (hidden_from g k n ss) i nobody ≡ seen g k j (get_or ss i nobody)
get-hidden_from g k n i j [] e = refl
get-hidden_from g k n zero j (s ∷ ss) e = let same : n ≡ j = omega (arith, e) in ap (λ (m : ℕ). seen g k m s) same
get-hidden_from g k n (suc i) j (s ∷ ss) e = get-hidden_from g k (suc n) i j ss (omega (arith, e))

pub get-hidden : (g : ℕ → ℕ) (k : ℕ) (ss : List BodyState) (i : ℕ) → get_or (hidden g k ss) i nobody ≡ seen g k i (get_or ss i nobody)
get-hidden g k ss i = get-hidden_from g k 0 i i ss (omega arith)

slice-hidden_from : (g : ℕ → ℕ) (k n i j : ℕ) (ss : List BodyState) (s : BodyState) → j ≡ n + i → slice_get ss i ≡ Some s → slice_get (hidden_from g k n ss) i ≡ Some (seen g k j s)
slice-hidden_from g k n i j [] s e at = absurd (cc at)
slice-hidden_from g k n zero j (a ∷ ss) s e at =
    let same : n ≡ j = omega (arith, e) in
    let is : a ≡ s = cc at in
    λ i. Some (seen g k (same i) (is i))
slice-hidden_from g k n (suc i) j (a ∷ ss) s e at = slice-hidden_from g k (suc n) i j ss s (omega (arith, e)) at

pub slice-hidden : (g : ℕ → ℕ) (k : ℕ) (ss : List BodyState) (i : ℕ) (s : BodyState) → slice_get ss i ≡ Some s → slice_get (hidden g k ss) i ≡ Some (seen g k i s)
slice-hidden g k ss i s at = slice-hidden_from g k 0 i i ss s (omega arith) at

hidden-set_from : (g : ℕ → ℕ) (k n i j : ℕ) (ss : List BodyState) (s : BodyState) → j ≡ n + i → hidden_from g k n (set ss i s) ≡ set (hidden_from g k n ss) i (seen g k j s)
hidden-set_from g k n i j [] s e = refl
hidden-set_from g k n zero j (a ∷ ss) s e = let same : n ≡ j = omega (arith, e) in ap (λ (m : ℕ). seen g k m s ∷ hidden_from g k (suc n) ss) same
hidden-set_from g k n (suc i) j (a ∷ ss) s e = ap (λ (l : List BodyState). seen g k n a ∷ l) (hidden-set_from g k (suc n) i j ss s (omega (arith, e)))

pub hidden-set : (g : ℕ → ℕ) (k : ℕ) (ss : List BodyState) (i : ℕ) (s : BodyState) → hidden g k (set ss i s) ≡ set (hidden g k ss) i (seen g k i s)
hidden-set g k ss i s = hidden-set_from g k 0 i i ss s (omega arith)

pub length-hidden_from : (g : ℕ → ℕ) (k n : ℕ) (ss : List BodyState) → length (hidden_from g k n ss) ≡ length ss
length-hidden_from g k n [] = refl
length-hidden_from g k n (s ∷ ss) = ap suc (length-hidden_from g k (suc n) ss)

-- ---- a change of each body

-- a change that leaves alone who moves, the masses, all of what stands, and nobody
pub record IsChange (h : BodyState → BodyState) : Type 0 where
  pub moves : (s : BodyState) → (h s).movable ≡ s.movable
  pub mass : (s : BodyState) → (h s).mass ≡ s.mass
  pub reciprocals : (s : BodyState) → (h s).reciprocals ≡ s.reciprocals
  pub stands : (s : BodyState) → s.movable ≡ false → is_carried s ≡ false → h s ≡ s
  pub none : h nobody ≡ nobody

changed_if : (h : BodyState → BodyState) → IsChange h → (m o : Bool) (s : BodyState) → cond m (cond o (h s) nobody) (h s) ≡ h (cond m (cond o s nobody) s)
changed_if h is true true s = refl
changed_if h is true false s = sym is.none
changed_if h is false o s = refl

seen-change : (h : BodyState → BodyState) → IsChange h → (g : ℕ → ℕ) (k n : ℕ) (s : BodyState) → seen g k n (h s) ≡ h (seen g k n s)
seen-change h is g k n s = ap (λ (m : Bool). cond m (cond (nat_eq (g n) k) (h s) nobody) (h s)) (is.moves s) ∙ changed_if h is s.movable (nat_eq (g n) k) s

hidden-map_from : (h : BodyState → BodyState) → IsChange h → (g : ℕ → ℕ) (k n : ℕ) (ss : List BodyState) → hidden_from g k n (map h ss) ≡ map h (hidden_from g k n ss)
hidden-map_from h is g k n [] = refl
hidden-map_from h is g k n (s ∷ ss) = ap₂ (λ (b : BodyState) (l : List BodyState). b ∷ l) (seen-change h is g k n s) (hidden-map_from h is g k (suc n) ss)

pub hidden-map : (h : BodyState → BodyState) → IsChange h → (g : ℕ → ℕ) (k : ℕ) (ss : List BodyState) → hidden g k (map h ss) ≡ map h (hidden g k ss)
hidden-map h is g k ss = hidden-map_from h is g k 0 ss

pub get-map : (h : BodyState → BodyState) → h nobody ≡ nobody → (ss : List BodyState) (slot : ℕ) → get_or (map h ss) slot nobody ≡ h (get_or ss slot nobody)
get-map h none [] slot = sym none
get-map h none (s ∷ ss) zero = refl
get-map h none (s ∷ ss) (suc slot) = get-map h none ss slot

pub beside-map : (h : BodyState → BodyState) → IsChange h → (ss : List BodyState) → AreSameBeside ss (map h ss)
beside-map h is ss =
    let at : (slot : ℕ) → get_or (map h ss) slot nobody ≡ h (get_or ss slot nobody) = get-map h is.none ss in
    record {
      long = length-map ss h;
      standing = λ slot m c. at slot ∙ is.stands (get_or ss slot nobody) m c;
      reciprocals = λ slot. ap (λ (b : BodyState). b.reciprocals) (at slot) ∙ is.reciprocals (get_or ss slot nobody);
      movable = λ slot. ap (λ (b : BodyState). b.movable) (at slot) ∙ is.moves (get_or ss slot nobody);
      mass = λ slot. ap (λ (b : BodyState). b.mass) (at slot) ∙ is.mass (get_or ss slot nobody);
    }

-- ---- sums over bodies, to which those that don't move add nothing

seen_adds : (v : BodyState → Vec2) → ((s : BodyState) → s.movable ≡ false → v s ≡ zero_vector) → (m o : Bool) (s : BodyState) → s.movable ≡ m → v (cond m (cond o s nobody) s) ≡ cond o (v s) zero_vector
seen_adds v still true true s is = refl
seen_adds v still true false s is = still nobody refl
seen_adds v still false true s is = refl
seen_adds v still false false s is = still s is

module _ (whole : List BodyState → Vec2) (v : BodyState → Vec2) (none : whole [] ≡ zero_vector) (more : (s : BodyState) (ss : List BodyState) → whole (s ∷ ss) ≡ plus (v s) (whole ss)) (still : (s : BodyState) → s.movable ≡ false → v s ≡ zero_vector) where
  sum-hidden_from : (g : ℕ → ℕ) (n : ℕ) → ArePartsBelow g n → (m : ℕ) (ss : List BodyState) → whole ss ≡ sum_below n (λ k. whole (hidden_from g k m ss))
  sum-hidden_from g n below m [] = none ∙ sym (sum_none n) ∙ sum_alike n (λ k. zero_vector) (λ k. whole []) (λ k lt. sym none)
  sum-hidden_from g n below m (s ∷ ss) =
      let rest : ℕ → Vec2 = λ k. whole (hidden_from g k (suc m) ss) in
      let each : (k : ℕ) → plus (one_of (g m) (v s) k) (rest k) ≡ whole (hidden_from g k m (s ∷ ss)) = λ k.
      ap (λ (x : Vec2). plus x (rest k)) (sym (seen_adds v still s.movable (nat_eq (g m) k) s refl)) ∙ sym (more (seen g k m s) (hidden_from g k (suc m) ss)) in
      more s ss ∙ added_apart n (v s) (whole ss) (one_of (g m) (v s)) rest (sym (sum_one n (g m) (v s) (below m))) (sum-hidden_from g n below (suc m) ss)
      ∙ sum_alike n (λ k. plus (one_of (g m) (v s) k) (rest k)) (λ k. whole (hidden_from g k m (s ∷ ss))) (λ k lt. each k)

  pub sum-hidden : (g : ℕ → ℕ) (n : ℕ) → ArePartsBelow g n → (ss : List BodyState) → whole ss ≡ sum_below n (λ k. whole (hidden g k ss))
  sum-hidden g n below ss = sum-hidden_from g n below 0 ss

-- ---- the slots of movers, and of what is carried along

movers_if : (q : ℕ → Bool) (n : ℕ) (P Q : List ℕ) → P ≡ filter q Q → (m o : Bool) (s : BodyState) → s.movable ≡ m → q n ≡ o → cond (cond m (cond o s nobody) s).movable (n ∷ P) P ≡ filter q (cond m (n ∷ Q) Q)
movers_if q n P Q same true true s is at = rw (is, at) (ap (λ (l : List ℕ). n ∷ l) same)
movers_if q n P Q same true false s is at = rw at same
movers_if q n P Q same false o s is at = rw is same

movers-hidden : (g : ℕ → ℕ) (k n : ℕ) (ss : List BodyState) → places_from moves n (hidden_from g k n ss) ≡ filter (λ slot. nat_eq (g slot) k) (places_from moves n ss)
movers-hidden g k n [] = refl
movers-hidden g k n (s ∷ ss) =
    movers_if (λ slot. nat_eq (g slot) k) n (places_from moves (suc n) (hidden_from g k (suc n) ss)) (places_from moves (suc n) ss) (movers-hidden g k (suc n) ss) s.movable (nat_eq (g n) k) s refl refl

carried_if : (m o : Bool) (s : BodyState) → s.movable ≡ m → is_carried (cond m (cond o s nobody) s) ≡ is_carried s
carried_if true true s is = refl
carried_if true false s is = rw is refl
carried_if false o s is = refl

pub carried-seen : (g : ℕ → ℕ) (k n : ℕ) (s : BodyState) → is_carried (seen g k n s) ≡ is_carried s
carried-seen g k n s = carried_if s.movable (nat_eq (g n) k) s refl

carried-hidden : (g : ℕ → ℕ) (k n : ℕ) (ss : List BodyState) → places_from is_carried n (hidden_from g k n ss) ≡ places_from is_carried n ss
carried-hidden g k n [] = refl
carried-hidden g k n (s ∷ ss) = λ i. cond (carried-seen g k n s i) (n ∷ carried-hidden g k (suc n) ss i) (carried-hidden g k (suc n) ss i)

pub movers_hidden : (g : ℕ → ℕ) (k : ℕ) (ss : List BodyState) → movers_of (hidden g k ss) ≡ filter (λ slot. nat_eq (g slot) k) (movers_of ss)
movers_hidden g k ss = movers-hidden g k 0 ss

pub carried_hidden : (g : ℕ → ℕ) (k : ℕ) (ss : List BodyState) → carried_of (hidden g k ss) ≡ carried_of ss
carried_hidden g k ss = carried-hidden g k 0 ss
