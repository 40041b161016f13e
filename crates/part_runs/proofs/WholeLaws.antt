-- What passes leave alone of all bodies, whatever the bodies are, and by how much the movers' momentum grows.
use Rattle.std.proofs.Common.{◌≡◌, ℕ, ◌<◌, Bool, true, false, cond, List, [], ◌∷◌, length, get_or, arith, refl, sym, ap, ◌∙◌, subst}
use Rattle.std.proofs.lemmas.Int.{ints}
use Rattle.std.proofs.lemmas.List.{get_or_default}
use Rattle.std.proofs.lemmas.List.Elements.{All-head, All-tail}
use Rattle.fixed_geom.specs.Vectors.{minus, plus, zero_vector}
use Rattle.fixed_geom.specs.declared.vectors.Vec2.{Vec2}
use Rattle.momenta.specs.Motions.{advanced}
use Rattle.momenta.specs.declared.mass.MassData.{MassData}
use Rattle.momenta.specs.declared.motion.Motion.{Motion}
use Rattle.momenta.specs.declared.state.BodyState.{BodyState}
use Rattle.momenta.specs.declared.state.Ends.{Ends}
use Rattle.colour_solver_base.specs.RowsAfter.{RowAfter}
use Rattle.colour_solver.specs.declared.constraint_row.ConstraintRow.{ConstraintRow}
use Rattle.colour_solver.specs.declared.row_visits.Slots.{Slots}
use Rattle.colour_solver.specs.ConstraintVisits.{constraint_slots}
use Rattle.colour_solver.specs.Passes.{carried_along, changed, gain, one_gain, pass}
use Rattle.colour_solver.specs.States.{AreSameStates, is_carried, momentum_of, nobody, total}
use Rattle.colour_solver.specs.RowVisits.{after, ends_of, got, passed, share, visit_of}
use Rattle.colour_solver.proofs.SameLaws.{same_on, same_visited}
use Rattle.colour_solver.proofs.VisitLaws.{total-after}
use Rattle.colour_solver.proofs.VectorLaws.{plus_assoc, plus_zero, same_vector, same_x, same_y}
use Rattle.part_runs.specs.Hidden.{ArePartsBelow, ArePlaced, IsPlaced, hidden, sum_below}
use Rattle.part_runs.specs.Passes.{IsFairVisit}
use Rattle.part_runs.proofs.HiddenLaws.{IsChange, sum-hidden}

-- ---- changes of each body

-- with another motion a body is alike
record IsAlike (before after : BodyState) : Type 0 where
  moves : after.movable ≡ before.movable
  mass : after.mass ≡ before.mass
  reciprocals : after.reciprocals ≡ before.reciprocals

alike_if : (m : Bool) (s : BodyState) (v : Motion) → IsAlike s (cond m (record s { motion = v }) s)
alike_if true s v = record { moves = refl; mass = refl; reciprocals = refl }
alike_if false s v = record { moves = refl; mass = refl; reciprocals = refl }

changed_alike : (f : MassData → Motion → Motion) (s : BodyState) → IsAlike s (changed f s)
changed_alike f s = alike_if s.movable s (f s.mass s.motion)

pub changed_is : (f : MassData → Motion → Motion) → IsChange (changed f)
changed_is f = record {
  moves = λ s. (changed_alike f s).moves;
  mass = λ s. (changed_alike f s).mass;
  reciprocals = λ s. (changed_alike f s).reciprocals;
  stands = λ s m c. rw m refl;
  none = refl;
}

along_alike : (s : BodyState) → IsAlike s (carried_along s)
along_alike s = alike_if (is_carried s) s (advanced s.mass s.motion)

pub along_is : IsChange carried_along
along_is = record {
  moves = λ s. (along_alike s).moves;
  mass = λ s. (along_alike s).mass;
  reciprocals = λ s. (along_alike s).reciprocals;
  stands = λ s m c. rw c refl;
  none = refl;
}

no_gain : (f : MassData → Motion → Motion) (s : BodyState) → s.movable ≡ false → one_gain f s ≡ zero_vector
no_gain f s h = rw h refl

pub gain_apart : (f : MassData → Motion → Motion) (g : ℕ → ℕ) (n : ℕ) → ArePartsBelow g n → (ss : List BodyState) → gain f ss ≡ sum_below n (λ k. gain f (hidden g k ss))
gain_apart f g n shares ss = sum-hidden (gain f) (one_gain f) refl (λ s rest. refl) (no_gain f) g n shares ss

grown : (a b t g u : Vec2) → u ≡ plus t g → plus b u ≡ plus (plus a t) (plus (minus b a) g)
grown a b t g u e = same_vector _ _ (omega (arith, ints, same_x e)) (omega (arith, ints, same_y e))

-- a change adds its gain to the momentum
pub total-pass : (f : MassData → Motion → Motion) (ss : List BodyState) → total (pass f ss) ≡ plus (total ss) (gain f ss)
total-pass f [] = refl
total-pass f (s ∷ ss) = grown (momentum_of s) (momentum_of (changed f s)) (total ss) (gain f ss) (total (pass f ss)) (total-pass f ss)

-- ---- visits of rows

pub same_still : (ss : List BodyState) → AreSameStates ss ss
same_still ss = record { long = refl; immovable = λ slot h. refl; reciprocals = λ slot. refl; movable = λ slot. refl; mass = λ slot. refl }

known : (ss : List BodyState) (i : ℕ) → i < length ss → get_or ss i nobody ≡ get_or ss i (get_or ss i nobody)
known ss i h = get_or_default ss i nobody (get_or ss i nobody) h

module _ (f : ConstraintRow → Ends → RowAfter ConstraintRow) (fair : IsFairVisit f) where
  same-after : (ss : List BodyState) (r : ConstraintRow) → IsPlaced (length ss) (constraint_slots r) → AreSameStates ss (after constraint_slots f ss r)
  same-after ss r is =
      let s : Slots = constraint_slots r in
      let e : Ends = ends_of constraint_slots ss r in
      same_visited ss s.a s.b e (f r e).ends is.a is.b (known ss s.a is.a) (known ss s.b is.b) (fair.ends r e).same

  total-visit : (ss : List BodyState) (r : ConstraintRow) → IsPlaced (length ss) (constraint_slots r) → total (after constraint_slots f ss r) ≡ plus (total ss) (got (ends_of constraint_slots ss r) (visit_of constraint_slots f ss r).ends)
  total-visit ss r is =
      let s : Slots = constraint_slots r in
      let e : Ends = ends_of constraint_slots ss r in
      total-after ss s.a s.b e (f r e).ends is.a is.b is.apart (known ss s.a is.a) (known ss s.b is.b) (fair.ends r e).same (fair.ends r e).kept

  rest_placed : (ss : List BodyState) (r : ConstraintRow) (rs : List ConstraintRow) → ArePlaced (length ss) (r ∷ rs) → ArePlaced (length (after constraint_slots f ss r)) rs
  rest_placed ss r rs all =
      let P : ℕ → ConstraintRow → Type 0 = λ n x. IsPlaced n (constraint_slots x) in
      subst (λ (n : ℕ). ArePlaced n rs) (sym (same-after ss r (All-head (P (length ss)) r rs all)).long) (All-tail (P (length ss)) r rs all)

  pub same-passed : (rs : List ConstraintRow) (ss : List BodyState) → ArePlaced (length ss) rs → AreSameStates ss (passed constraint_slots f ss rs)
  same-passed [] ss all = same_still ss
  same-passed (r ∷ rs) ss all =
      let now : List BodyState = after constraint_slots f ss r in
      same_on ss now (passed constraint_slots f now rs) (same-after ss r (All-head (λ x. IsPlaced (length ss) (constraint_slots x)) r rs all)) (same-passed rs now (rest_placed ss r rs all))

  -- visits add what immovable bodies give
  pub total-passed : (rs : List ConstraintRow) (ss : List BodyState) → ArePlaced (length ss) rs → total (passed constraint_slots f ss rs) ≡ plus (total ss) (share constraint_slots f ss rs)
  total-passed [] ss all = sym (plus_zero (total ss))
  total-passed (r ∷ rs) ss all =
      let now : List BodyState = after constraint_slots f ss r in
      let v : Vec2 = got (ends_of constraint_slots ss r) (visit_of constraint_slots f ss r).ends in
      let one : total now ≡ plus (total ss) v = total-visit ss r (All-head (λ x. IsPlaced (length ss) (constraint_slots x)) r rs all) in
      total-passed rs now (rest_placed ss r rs all) ∙ ap (λ (t : Vec2). plus t (share constraint_slots f now rs)) one ∙ sym (plus_assoc (total ss) v (share constraint_slots f now rs))

-- ---- sums

-- what one more change of the momentum makes of the sums: t before it, with what the first momentum and the sums were
pub more_gravity : (now t first g i c more : Vec2) → now ≡ plus t more → t ≡ plus first (plus g (plus i c)) → now ≡ plus first (plus (plus g more) (plus i c))
more_gravity now t first g i c more h e = same_vector now _ (omega (arith, ints, same_x h, same_x e)) (omega (arith, ints, same_y h, same_y e))

pub more_immovable : (now t first g i c more : Vec2) → now ≡ plus t more → t ≡ plus first (plus g (plus i c)) → now ≡ plus first (plus g (plus (plus i more) c))
more_immovable now t first g i c more h e = same_vector now _ (omega (arith, ints, same_x h, same_x e)) (omega (arith, ints, same_y h, same_y e))

pub more_clamp : (now t first g i c more : Vec2) → now ≡ plus t more → t ≡ plus first (plus g (plus i c)) → now ≡ plus first (plus g (plus i (plus c more)))
more_clamp now t first g i c more h e = same_vector now _ (omega (arith, ints, same_x h, same_x e)) (omega (arith, ints, same_y h, same_y e))
