-- Friction that has no room leaves a point and its bodies as they are.
use Rattle.std.proofs.Common.{◌≡◌, ◌∙◌, ℤ, pos, neg_ℤ, ◌+ℤ◌, arith, refl, ap}
use Rattle.std.proofs.lemmas.Int.{ints}
use Rattle.momenta.specs.declared.state.Ends.{Ends}
use Rattle.momenta.specs.declared.line.Line.{Line}
use Rattle.momenta.specs.Impulses.{between, solved_impulse, speed_along, wanted}
use Rattle.momenta.specs.ImpulseBounds.{AreStates}
use Rattle.momenta.proofs.NoImpulse.{exerted_none}
use Rattle.colour_solver_base.specs.declared.row.PointRow.{PointRow}
use Rattle.colour_solver_base.specs.Rows.{tangent_line, tangent_solved, with_tangent}
use Rattle.colour_solver_base.specs.ContactSolving.{most_friction}

no_room : (z : ℤ) → between (pos 0) (pos 0) z ≡ pos 0
no_room z = grind (arith, ints)

solved_none : (line : Line) (e : Ends) → AreStates e → solved_impulse line (pos 0) (pos 0) (pos 0) (pos 0) e ≡ record { ends = e; total = pos 0 }
unfolding solved_impulse
solved_none line e h = rw (no_room (pos 0 +ℤ wanted (speed_along line e) (pos 0) line.inverse_mass)) (exerted_none line (pos 0) e h)

same_point : (p : PointRow) (e : Ends) → p.tangent_impulse ≡ pos 0 → with_tangent p (record { ends = e; total = pos 0 }) ≡ record { point = p; ends = e }
same_point p e h = rw (← h) refl

pub frictionless : (friction : ℤ) (p : PointRow) (e : Ends) → AreStates e → most_friction friction p.normal_impulse ≡ pos 0 → p.tangent_impulse ≡ pos 0 → tangent_solved friction p e ≡ record { point = p; ends = e }
frictionless friction p e states most none =
    let turn : solved_impulse (tangent_line p) (pos 0) (neg_ℤ (most_friction friction p.normal_impulse)) (most_friction friction p.normal_impulse) p.tangent_impulse e ≡ record { ends = e; total = pos 0 } = rw (most, none) (solved_none (tangent_line p) e states) in
    ap (with_tangent p) turn ∙ same_point p e none
