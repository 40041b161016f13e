-- What two passes over the bodies keep, and what they add to the movers' momentum.
use Rattle.std.proofs.Common.{◌*◌, ◌≡◌, zero, suc, List, [], ◌∷◌, length, true, false, ℤ, ◌+ℤ◌, arith, refl, sym, ap, ap₂, ◌∙◌, subst, inl, inr, ◌≤◌, ◌^◌, ◌+◌, ℕ, unsigned_abs}
use Rattle.std.proofs.lemmas.Bool.{cases_Bool}
use Rattle.std.proofs.lemmas.Int.{ints}
use Rattle.fixed_geom.specs.Vectors.{minus, plus}
use Rattle.fixed_geom.specs.declared.vectors.Vec2.{Vec2}
use Rattle.momenta.specs.ImpulseBounds.{IsState}
use Rattle.momenta.specs.Motions.{IsMotion}
use Rattle.momenta.specs.declared.mass.MassData.{MassData}
use Rattle.momenta.specs.declared.motion.Motion.{Motion}
use Rattle.momenta.specs.declared.state.BodyState.{BodyState}
use Rattle.colour_solver.specs.States.{AreAllStates, momentum_of, total}
use Rattle.colour_solver.specs.declared.constraint_row.ConstraintRow.{ConstraintRow}
use Rattle.colour_solver.specs.ConstraintVisits.{AreRowsBelow}
use Rattle.colour_solver.specs.Passes.{OnMover, OnMovers, changed, gain, pass}
use Rattle.colour_solver.proofs.VectorLaws.{same_vector, same_x, same_y}

-- ---- what stays a body

pub changed_mover : (f : MassData → Motion → Motion) (s : BodyState) → s.movable ≡ true → changed f s ≡ record s { motion = f s.mass s.motion }
changed_mover f s h = rw h

pub changed_other : (f : MassData → Motion → Motion) (s : BodyState) → s.movable ≡ false → changed f s ≡ s
changed_other f s h = rw h

-- two changes of one body: one that moves has the motion that they make, another is as it was
state_kept : (f g : MassData → Motion → Motion) (s : BodyState) → IsState s → OnMover IsMotion (changed g (changed f s)) → IsState (changed g (changed f s))
state_kept f g s is moved = elim (cases_Bool s.movable) [
  | inl h ↦
      let first : changed f s ≡ record s { motion = f s.mass s.motion } = changed_mover f s h in
      let both : changed g (changed f s) ≡ record s { motion = g s.mass (f s.mass s.motion) } = ap (changed g) first ∙ changed_mover g (record s { motion = f s.mass s.motion }) h in
      let now : OnMover IsMotion (record s { motion = g s.mass (f s.mass s.motion) }) = subst (OnMover IsMotion) both moved in
      subst IsState (sym both) (record { mass = is.mass; reciprocals = is.reciprocals; motion = now h; start = is.start })
  | inr h ↦ subst IsState (sym (ap (changed g) (changed_other f s h) ∙ changed_other g s h)) is
]

states_kept : (f g : MassData → Motion → Motion) (ss : List BodyState) → AreAllStates ss → OnMovers IsMotion (pass g (pass f ss)) → AreAllStates (pass g (pass f ss))
states_kept f g [] all moved slot s e = all slot s e
states_kept f g (a ∷ ss) all moved zero s e =
    let same : changed g (changed f a) ≡ s = cc e in
    subst IsState same (state_kept f g a (all zero a refl) (moved zero (changed g (changed f a)) refl))
states_kept f g (a ∷ ss) all moved (suc slot) s e = states_kept f g ss (λ k x h. all (suc k) x h) (λ k x h. moved (suc k) x h) slot s e

pub states_after : (f g : MassData → Motion → Motion) (old new : List BodyState) → new ≡ pass g (pass f old) → AreAllStates old → OnMovers IsMotion new → AreAllStates new
states_after f g old new e all moved = subst AreAllStates (sym e) (states_kept f g old all (subst (OnMovers IsMotion) e moved))

length-pass : (f : MassData → Motion → Motion) (ss : List BodyState) → length (pass f ss) ≡ length ss
length-pass f [] = refl
length-pass f (s ∷ ss) = ap suc (length-pass f ss)

pub long_after : (f g : MassData → Motion → Motion) (old new : List BodyState) → new ≡ pass g (pass f old) → length new ≡ length old
long_after f g old new e = ap length e ∙ length-pass g (pass f old) ∙ length-pass f old

pub rows_as_long : (n m : ℕ) (rows : List ConstraintRow) → n ≡ m → AreRowsBelow m rows → AreRowsBelow n rows
rows_as_long n m rows e all = subst (λ (k : ℕ). AreRowsBelow k rows) (sym e) all

-- ---- what a pass adds to the momentum is its gain

grown : (a b t g u : Vec2) → u ≡ plus t g → plus b u ≡ plus (plus a t) (plus (minus b a) g)
grown a b t g u e = same_vector _ _ (omega (arith, ints, same_x e)) (omega (arith, ints, same_y e))

total-pass : (f : MassData → Motion → Motion) (ss : List BodyState) → total (pass f ss) ≡ plus (total ss) (gain f ss)
total-pass f [] = refl
total-pass f (s ∷ ss) = grown (momentum_of s) (momentum_of (changed f s)) (total ss) (gain f ss) (total (pass f ss)) (total-pass f ss)

pub total-after : (f g : MassData → Motion → Motion) (old new : List BodyState) (a b : Vec2) → new ≡ pass g (pass f old) → a ≡ gain f old → b ≡ gain g (pass f old) → total new ≡ plus (plus (total old) a) b
total-after f g old new a b e is_a is_b =
    ap total e ∙ (total-pass g (pass f old) ∙ (ap (λ (t : Vec2). plus t (gain g (pass f old))) (total-pass f old) ∙ ap₂ (λ (v w : Vec2). plus (plus (total old) v) w) (sym is_a) (sym is_b)))

-- the momentum before and after a tick's passes, and the sums g, i and c before them
pub tick_adds : (t0 t1 t2 t3 t4 fallen limited warm solved again moved g i c : Vec2) → t1 ≡ plus (plus t0 fallen) limited → t2 ≡ plus t1 warm → t3 ≡ plus t2 solved → t4 ≡ plus (plus t3 again) moved
    → plus t4 (plus g (plus i c)) ≡ plus t0 (plus (plus g fallen) (plus (plus (plus i warm) solved) (plus (plus (plus c limited) again) moved)))
tick_adds t0 t1 t2 t3 t4 fallen limited warm solved again moved g i c e1 e2 e3 e4 =
    same_vector _ _ (omega (arith, ints, same_x e1, same_x e2, same_x e3, same_x e4)) (omega (arith, ints, same_y e1, same_y e2, same_y e3, same_y e4))

-- a total t, the one before it and the first one, and what the sums were and are
pub carried_on : (t before first were are : Vec2) → plus t were ≡ plus before are → before ≡ plus first were → t ≡ plus first are
carried_on t before first were are h e = same_vector t _ (omega (arith, ints, same_x h, same_x e)) (omega (arith, ints, same_y h, same_y e))

-- and what immovable bodies give last
pub last_added : (t before first g i c more : Vec2) → t ≡ plus before more → before ≡ plus first (plus g (plus i c)) → t ≡ plus first (plus g (plus (plus i more) c))
last_added t before first g i c more h e = same_vector t _ (omega (arith, ints, same_x h, same_x e)) (omega (arith, ints, same_y h, same_y e))

-- ---- sizes

pub one_more : (a b : ℤ) (n : ℕ) → unsigned_abs a ≤ n → unsigned_abs b ≤ 2 ^ 78 → unsigned_abs (a +ℤ b) ≤ n + 3 * 2 ^ 78
one_more a b n h k = omega (arith, ints)

pub two_more : (a b c : ℤ) (n : ℕ) → unsigned_abs a ≤ n → unsigned_abs b ≤ 2 ^ 78 → unsigned_abs c ≤ 2 ^ 78 → unsigned_abs ((a +ℤ b) +ℤ c) ≤ n + 3 * 2 ^ 78
two_more a b c n h k l = omega (arith, ints)

pub three_more : (a b c d : ℤ) (n : ℕ) → unsigned_abs a ≤ n → unsigned_abs b ≤ 2 ^ 78 → unsigned_abs c ≤ 2 ^ 78 → unsigned_abs d ≤ 2 ^ 78 → unsigned_abs (((a +ℤ b) +ℤ c) +ℤ d) ≤ n + 3 * 2 ^ 78
three_more a b c d n h k l m = omega (arith, ints)
