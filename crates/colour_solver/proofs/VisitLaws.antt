-- What the visit of one row keeps, and what it adds to the movers' momentum.
use Rattle.std.proofs.Common.{◌≡◌, ◌≢◌, ℕ, zero, suc, ◌<◌, ◌≤◌, ◌*◌, ◌^◌, Bool, true, false, List, [], ◌∷◌, ◌++◌, length, get_or, set, ℤ, ◌+ℤ◌, unsigned_abs, cond, arith, refl, sym, ap, ap₂, ◌∙◌, subst, inl, inr}
use Rattle.std.proofs.lemmas.Bool.{cases_Bool}
use Rattle.std.proofs.lemmas.Int.{ints}
use Rattle.std.proofs.lemmas.List.{get_or-set_other, length-set}
use Rattle.std.proofs.lemmas.List.Elements.{All-set}
use Rattle.body_handles.specs.declared.slot_table.TheConstants.{MAX_SLOTS}
use Rattle.fixed_geom.specs.Vectors.{IsWithin, minus, plus, zero_vector}
use Rattle.fixed_geom.specs.declared.vectors.Vec2.{Vec2}
use Rattle.momenta.specs.declared.state.BodyState.{BodyState}
use Rattle.momenta.specs.declared.state.Ends.{Ends}
use Rattle.momenta.specs.ImpulseBounds.{AreSameBodies, IsMomentumKept, IsState}
use Rattle.colour_solver.specs.States.{AreAllStates, momentum_of, total}
use Rattle.colour_solver.specs.declared.row_visits.Slots.{Slots}
use Rattle.colour_solver.specs.RowVisits.{AreRowsOn, IsRowOn, after, got, got_by}
use Rattle.colour_solver.proofs.VectorLaws.{plus_assoc, plus_zero, same_vector, same_x, same_y}

-- ---- a body put into its slot

pub state_at : (ss : List BodyState) (i : ℕ) (s d : BodyState) → AreAllStates ss → i < length ss → s ≡ get_or ss i d → IsState s
state_at [] i s d all h e = absurd (omega arith)
state_at (a ∷ ss) zero s d all h e = subst IsState (sym e) (all zero a refl)
state_at (a ∷ ss) (suc i) s d all h e = state_at ss i s d (λ k x f. all (suc k) x f) (omega arith) e

pub states-set : (ss : List BodyState) (i : ℕ) (s : BodyState) → AreAllStates ss → IsState s → AreAllStates (set ss i s)
states-set [] i s all is k x e = all k x e
states-set (a ∷ ss) zero s all is zero x e = let same : s ≡ x = cc e in subst IsState same is
states-set (a ∷ ss) zero s all is (suc k) x e = all (suc k) x e
states-set (a ∷ ss) (suc i) s all is zero x e = all zero x e
states-set (a ∷ ss) (suc i) s all is (suc k) x e = states-set ss i s (λ k x f. all (suc k) x f) is k x e

pub states-push : (ss : List BodyState) (s : BodyState) → AreAllStates ss → IsState s → AreAllStates (ss ++ s ∷ [])
states-push [] s all is zero x e = let same : s ≡ x = cc e in subst IsState same is
states-push [] s all is (suc k) x e = all k x e
states-push (a ∷ ss) s all is zero x e = all zero x e
states-push (a ∷ ss) s all is (suc k) x e = states-push ss s (λ n y f. all (suc n) y f) is k x e

-- one body in the place of another
in_place : (a s t : Vec2) → plus (plus s t) a ≡ plus (plus a t) s
in_place a s t = same_vector _ _ (omega (arith, ints)) (omega (arith, ints))

behind : (a t o u s : Vec2) → plus t o ≡ plus u s → plus (plus a t) o ≡ plus (plus a u) s
behind a t o u s e = sym (plus_assoc a t o) ∙ (ap (plus a) e ∙ plus_assoc a u s)

total-set : (ss : List BodyState) (i : ℕ) (s d : BodyState) → i < length ss → plus (total (set ss i s)) (momentum_of (get_or ss i d)) ≡ plus (total ss) (momentum_of s)
total-set [] i s d h = absurd (omega arith)
total-set (a ∷ ss) zero s d h = in_place (momentum_of a) (momentum_of s) (total ss)
total-set (a ∷ ss) (suc i) s d h = behind (momentum_of a) (total (set ss i s)) (momentum_of (get_or ss i d)) (total ss) (momentum_of s) (total-set ss i s d (omega arith))

-- ---- the momentum of the two bodies

immovable : (s : BodyState) → s.movable ≡ false → momentum_of s ≡ zero_vector
immovable s h = rw h

movable : (s : BodyState) → s.movable ≡ true → momentum_of s ≡ s.motion.p
movable s h = rw h

-- of two bodies, of which the one moves if t says so and the other if u does
gained_by : (t u : Bool) (p q after_p after_q : Vec2) → (t ≡ true → u ≡ true → plus after_p after_q ≡ plus p q)
    → plus (cond t after_p zero_vector) (cond u after_q zero_vector) ≡ plus (plus (cond t p zero_vector) (cond u q zero_vector)) (got_by t u (minus after_p p) (minus after_q q))
gained_by true true p q after_p after_q kept = kept refl refl ∙ sym (plus_zero (plus p q))
gained_by true false p q after_p after_q kept = same_vector _ _ (omega (arith, ints)) (omega (arith, ints))
gained_by false true p q after_p after_q kept = same_vector _ _ (omega (arith, ints)) (omega (arith, ints))
gained_by false false p q after_p after_q kept = refl

gained : (e after : Ends) → AreSameBodies e after → IsMomentumKept e after → plus (momentum_of after.a) (momentum_of after.b) ≡ plus (plus (momentum_of e.a) (momentum_of e.b)) (got e after)
gained e after same kept =
    ap₂ plus (ap (λ (t : Bool). cond t after.a.motion.p zero_vector) same.a.movable) (ap (λ (t : Bool). cond t after.b.motion.p zero_vector) same.b.movable)
    ∙ gained_by e.a.movable e.b.movable e.a.motion.p e.b.motion.p after.a.motion.p after.b.motion.p (λ ha hb. same_vector _ _ (kept.x ha hb) (kept.y ha hb))

-- two bodies, in the slots i and j of which they are known, replaced by what their visit makes of them
told : (before one both pa pb pa1 pb1 at got : Vec2) → plus one pa ≡ plus before pa1 → plus both at ≡ plus one pb1 → at ≡ pb → plus pa1 pb1 ≡ plus (plus pa pb) got → both ≡ plus before got
told before one both pa pb pa1 pb1 at got first second e sum =
    same_vector both _ (omega (arith, ints, same_x first, same_x second, same_x e, same_x sum)) (omega (arith, ints, same_y first, same_y second, same_y e, same_y sum))

pub total-after : (ss : List BodyState) (i j : ℕ) (e after : Ends) → i < length ss → j < length ss → i ≢ j → e.a ≡ get_or ss i e.a → e.b ≡ get_or ss j e.b → AreSameBodies e after → IsMomentumKept e after
    → total (set (set ss i after.a) j after.b) ≡ plus (total ss) (got e after)
total-after ss i j e after hi hj apart is_a is_b same kept =
    let first : plus (total (set ss i after.a)) (momentum_of e.a) ≡ plus (total ss) (momentum_of after.a) = ap (λ (s : BodyState). plus (total (set ss i after.a)) (momentum_of s)) is_a ∙ total-set ss i after.a e.a hi in
    let long : j < length (set ss i after.a) = rw (length-set ss i after.a) hj in
    let second = total-set (set ss i after.a) j after.b e.b long in
    let at : momentum_of (get_or (set ss i after.a) j e.b) ≡ momentum_of e.b = ap momentum_of (get_or-set_other ss i j after.a e.b (λ h. apart (sym h)) ∙ sym is_b) in
    told (total ss) (total (set ss i after.a)) (total (set (set ss i after.a) j after.b)) (momentum_of e.a) (momentum_of e.b) (momentum_of after.a) (momentum_of after.b) (momentum_of (get_or (set ss i after.a) j e.b)) (got e after)
    first second at (gained e after same kept)

-- ---- the momentum's size

small : (s : BodyState) → IsState s → IsWithin (2 ^ 60) (momentum_of s)
small s is = elim (cases_Bool s.movable) [
  | inl h ↦ subst (IsWithin (2 ^ 60)) (sym (movable s h)) is.motion.p
  | inr h ↦ subst (IsWithin (2 ^ 60)) (sym (immovable s h)) (record { x = omega arith; y = omega arith })
]

size_more : (a b : ℤ) (n : ℕ) → unsigned_abs a ≤ 2 ^ 60 → unsigned_abs b ≤ n * 2 ^ 60 → unsigned_abs (a +ℤ b) ≤ suc n * 2 ^ 60
size_more a b n h k = omega (arith, ints)

total-small : (ss : List BodyState) → AreAllStates ss → IsWithin (length ss * 2 ^ 60) (total ss)
total-small [] all = record { x = omega arith; y = omega arith }
total-small (s ∷ ss) all =
    let first = small s (all zero s refl) in
    let rest = total-small ss (λ k x f. all (suc k) x f) in
    record { x = size_more (momentum_of s).x (total ss).x (length ss) first.x rest.x; y = size_more (momentum_of s).y (total ss).y (length ss) first.y rest.y }

difference : (old new given : ℤ) (n m : ℕ) → new ≡ old +ℤ given → unsigned_abs old ≤ n * 2 ^ 60 → unsigned_abs new ≤ m * 2 ^ 60 → n ≤ MAX_SLOTS → m ≤ MAX_SLOTS → unsigned_abs given ≤ 2 ^ 78
difference old new given n m e h k few few2 = omega (arith, ints)

-- what changes the total of so few bodies is small
pub given-small : (old new : List BodyState) (given : Vec2) → AreAllStates old → AreAllStates new → length old ≤ MAX_SLOTS → length new ≤ MAX_SLOTS → total new ≡ plus (total old) given → IsWithin (2 ^ 78) given
given-small old new given a b few few2 e =
    let before = total-small old a in
    let after = total-small new b in
    record {
      x = difference (total old).x (total new).x given.x (length old) (length new) (same_x e) before.x after.x few few2;
      y = difference (total old).y (total new).y given.y (length old) (length new) (same_y e) before.y after.y few few2;
    }

-- ---- one row further

pub rows_below : {R : Type 0} (at : R → Slots) (is : R → Type 0) (n m : ℕ) (rows : List R) (i : ℕ) (new : R) → n ≡ m → AreRowsOn at is m rows → IsRowOn at is n new → AreRowsOn at is n (set rows i new)
rows_below at is n m rows i new e all here = All-set (IsRowOn at is n) rows i new here (subst (λ (k : ℕ). AreRowsOn at is k rows) (sym e) all)

pub row_at : {R : Type 0} (at : R → Slots) (is : R → Type 0) (n : ℕ) (rows : List R) (i : ℕ) (r : R) → AreRowsOn at is n rows → i < length rows → r ≡ get_or rows i r → IsRowOn at is n r
row_at at is n rows i r all h e = subst (IsRowOn at is n) (sym e) (all i r h)

-- a row whose slots stay
pub row_kept : {R : Type 0} (at : R → Slots) (is : R → Type 0) (n m : ℕ) (old new : R) → m ≡ n → IsRowOn at is n old → is new → at new ≡ at old → IsRowOn at is m new
row_kept at is n m old new long on here same = record { row = here; a = rw (same, long) on.a; b = rw (same, long) on.b; apart = rw same on.apart }
