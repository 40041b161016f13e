-- What visits leave alone of two bodies, and that two movers' momenta keep their sum, whatever the row and the bodies
-- are.
use Rattle.std.proofs.Common.{◌≡◌, Bool, true, false, cond, Option, Some, None, ℤ, ◌+ℤ◌, neg_ℤ, arith, refl, ◌∙◌}
use Rattle.std.proofs.lemmas.Int.{ints}
use Rattle.std.specs.Prelude.{unwrap_or}
use Rattle.fixed_geom.specs.Vectors.{opposite, plus}
use Rattle.fixed_geom.specs.declared.vectors.Vec2.{Vec2}
use Rattle.momenta.specs.declared.state.BodyState.{BodyState}
use Rattle.momenta.specs.declared.state.Ends.{Ends}
use Rattle.momenta.specs.declared.line.Line.{Line}
use Rattle.momenta.specs.Impulses.{both, exerted, fits, given, impulse_pair, or_dropped, solved_impulse, taken, warmed}
use Rattle.momenta.proofs.ImpulseLaws.{given_same}
use Rattle.momenta.proofs.NoImpulse.{same_bodies, same_momentum}
use Rattle.joint_rows.specs.Rows.{joint_solved, joint_warmed}
use Rattle.joint_rows.specs.declared.row.JointRow.{JointRow}
use Rattle.joint_rows.specs.declared.solve.JointAfter.{JointAfter}
use Rattle.colour_solver_base.specs.declared.row.ContactRow.{ContactRow}
use Rattle.colour_solver_base.specs.declared.row.PointRow.{PointRow}
use Rattle.colour_solver_base.specs.declared.solve.PointAfter.{PointAfter}
use Rattle.colour_solver_base.specs.RowsAfter.{RowAfter}
use Rattle.colour_solver_base.specs.Rows.{after_first, at_points, bounces, point_bounced, point_solved, point_warmed, row_bounced, row_solved, row_warmed, then_second}
use Rattle.colour_solver_base.proofs.Kept.{kept_then, same_then}
use Rattle.colour_solver.specs.ConstraintVisits.{constraint_bounced, constraint_solved, constraint_warmed, either_visit, joint_unbounced}
use Rattle.colour_solver.specs.Phases.{constraint_visit}
use Rattle.colour_solver.specs.declared.constraint_row.ConstraintRow.{ConstraintRow}
use Rattle.colour_solver.specs.declared.constraint_row.ConstraintRow.TheVariants.{Contact, Joint}
use Rattle.colour_solver.specs.declared.phase.Phase.TheVariants.{Bounce, Solve, Warm}
use Rattle.colour_solver.proofs.SlotLaws.{visit_name, visit_slots}
use Rattle.part_runs.specs.Passes.{AreFair, IsFairVisit}
use Rattle.part_runs.specs.Laws.{VisitsAreFair}

-- ---- two bodies

still : (e : Ends) → AreFair e e
still e = record { same = same_bodies e; kept = same_momentum e }

fair_then : (d e f : Ends) → AreFair d e → AreFair e f → AreFair d f
fair_then d e f h k = record { same = same_then d e f h.same k.same; kept = kept_then d e f h.same h.kept k.kept }

-- ---- one impulse

given_p : (j r : Vec2) (s : BodyState) → s.movable ≡ true → (given j r s).motion.p ≡ plus s.motion.p j
unfolding given
given_p j r s h = rw h refl

sum_kept : (p q j : ℤ) → (p +ℤ neg_ℤ j) +ℤ (q +ℤ j) ≡ p +ℤ q
sum_kept p q j = omega (arith, ints)

given_fair : (j ra rb : Vec2) (e : Ends) → AreFair e (record { a = given (opposite j) ra e.a; b = given j rb e.b })
given_fair j ra rb e = record {
  same = record { a = given_same (opposite j) ra e.a; b = given_same j rb e.b };
  kept = record {
    x = λ h k. (λ i. (given_p (opposite j) ra e.a h i).x +ℤ (given_p j rb e.b k i).x) ∙ sum_kept e.a.motion.p.x e.b.motion.p.x j.x;
    y = λ h k. (λ i. (given_p (opposite j) ra e.a h i).y +ℤ (given_p j rb e.b k i).y) ∙ sum_kept e.a.motion.p.y e.b.motion.p.y j.y;
  };
}

pair_if : (t u : Bool) (e : Ends) (a b : BodyState) → AreFair e (record { a = a; b = b }) → AreFair e (unwrap_or (both (cond t (Some a) None) (cond u (Some b) None)) e)
pair_if true true e a b h = h
pair_if true false e a b h = still e
pair_if false u e a b h = still e

impulse_fair : (j ra rb : Vec2) (e : Ends) → AreFair e (unwrap_or (impulse_pair j ra rb e) e)
unfolding impulse_pair taken
impulse_fair j ra rb e = pair_if (fits (given (opposite j) ra e.a).motion) (fits (given j rb e.b).motion) e (given (opposite j) ra e.a) (given j rb e.b) (given_fair j ra rb e)

dropped_is : (old new : ℤ) (e : Ends) (o : Option Ends) → (or_dropped old e new o).ends ≡ unwrap_or o e
dropped_is old new e (Some after) = refl
dropped_is old new e None = refl

exerted_fair : (line : Line) (old new : ℤ) (e : Ends) → AreFair e (exerted line old new e).ends
unfolding exerted
exerted_fair line old new e = rw (dropped_is old new e) (impulse_fair _ line.ra line.rb e)

solved_fair : (line : Line) (bias low high total : ℤ) (e : Ends) → AreFair e (solved_impulse line bias low high total e).ends
unfolding solved_impulse
solved_fair line bias low high total e = exerted_fair line total _ e

warmed_fair : (line : Line) (total : ℤ) (e : Ends) → AreFair e (warmed line total e)
unfolding warmed
warmed_fair line total e = impulse_fair _ line.ra line.rb e

-- ---- a joint

joint_warmed_fair : (r : JointRow) (e : Ends) → AreFair e (joint_warmed r e).ends
unfolding joint_warmed
joint_warmed_fair r e = warmed_fair r.line r.impulse e

joint_solved_fair : (r : JointRow) (e : Ends) → AreFair e (joint_solved r e).ends
unfolding joint_solved
joint_solved_fair r e = solved_fair r.line _ _ _ r.impulse e

-- ---- a point of a contact

abbrev IsPointFair : (PointRow → Ends → PointAfter) → Type 0
IsPointFair f = (p : PointRow) (e : Ends) → AreFair e (f p e).ends

point_solved_fair : (friction : ℤ) → IsPointFair (point_solved friction)
unfolding point_solved
point_solved_fair friction p e = fair_then e _ _ (solved_fair _ _ _ _ p.normal_impulse e) (solved_fair _ _ _ _ _ _)

point_warmed_fair : (p : PointRow) (e : Ends) → AreFair e (point_warmed p e)
unfolding point_warmed
point_warmed_fair p e = fair_then e _ _ (warmed_fair _ p.normal_impulse e) (warmed_fair _ p.tangent_impulse _)

bounced_by : (t : Bool) (p : PointRow) (e : Ends) (x : PointAfter) → AreFair e x.ends → AreFair e (cond t x (record { point = p; ends = e })).ends
bounced_by true p e x h = h
bounced_by false p e x h = still e

point_bounced_fair : (restitution : ℤ) → IsPointFair (point_bounced restitution)
unfolding point_bounced
point_bounced_fair restitution p e = bounced_by (bounces restitution p) p e _ (solved_fair _ _ _ _ p.normal_impulse e)

-- ---- a contact

second_fair : (f : PointRow → Ends → PointAfter) → IsPointFair f → (e : Ends) (t : RowAfter ContactRow) (o : Option PointRow) → AreFair e t.ends → AreFair e (then_second f t o).ends
second_fair f fair e t None h = h
second_fair f fair e t (Some p) h = fair_then e t.ends (f p t.ends).ends h (fair p t.ends)

points_fair : (f : PointRow → Ends → PointAfter) → IsPointFair f → (r : ContactRow) (e : Ends) → AreFair e (at_points f r e).ends
points_fair f fair r e = second_fair f fair e (after_first r (f r.first e)) r.second (fair r.first e)

row_warmed_fair : (r : ContactRow) (e : Ends) → AreFair e (row_warmed r e).ends
unfolding row_warmed
row_warmed_fair r e = points_fair (λ p e. record { point = p; ends = point_warmed p e }) point_warmed_fair r e

row_solved_fair : (r : ContactRow) (e : Ends) → AreFair e (row_solved r e).ends
unfolding row_solved
row_solved_fair r e = points_fair (point_solved r.bodies.friction) (point_solved_fair r.bodies.friction) r e

row_bounced_fair : (r : ContactRow) (e : Ends) → AreFair e (row_bounced r e).ends
unfolding row_bounced
row_bounced_fair r e = points_fair (point_bounced r.bodies.restitution) (point_bounced_fair r.bodies.restitution) r e

-- ---- a row of either kind

either_fair : (f : JointRow → Ends → JointAfter) (g : ContactRow → Ends → RowAfter ContactRow) → ((r : JointRow) (e : Ends) → AreFair e (f r e).ends) → ((r : ContactRow) (e : Ends) → AreFair e (g r e).ends)
    → (r : ConstraintRow) (e : Ends) → AreFair e (either_visit f g r e).ends
either_fair f g h k (Joint r) e = h r e
either_fair f g h k (Contact r) e = k r e

pub all_warmed_fair : IsFairVisit constraint_warmed
all_warmed_fair = record { ends = either_fair joint_warmed row_warmed joint_warmed_fair row_warmed_fair; slots = λ r e. visit_slots Warm r e; name = λ r e. visit_name Warm r e }

pub all_solved_fair : IsFairVisit constraint_solved
all_solved_fair = record { ends = either_fair joint_solved row_solved joint_solved_fair row_solved_fair; slots = λ r e. visit_slots Solve r e; name = λ r e. visit_name Solve r e }

pub all_bounced_fair : IsFairVisit constraint_bounced
all_bounced_fair = record { ends = either_fair joint_unbounced row_bounced (λ r e. still e) row_bounced_fair; slots = λ r e. visit_slots Bounce r e; name = λ r e. visit_name Bounce r e }

-- ---- the passes by their names

warm_at : (r : ConstraintRow) (e : Ends) → constraint_visit Warm r e ≡ constraint_warmed r e
warm_at (Joint r) e = refl
warm_at (Contact r) e = refl

solve_at : (r : ConstraintRow) (e : Ends) → constraint_visit Solve r e ≡ constraint_solved r e
solve_at (Joint r) e = refl
solve_at (Contact r) e = refl

bounce_at : (r : ConstraintRow) (e : Ends) → constraint_visit Bounce r e ≡ constraint_bounced r e
bounce_at (Joint r) e = refl
bounce_at (Contact r) e = refl

pub visits_fair : VisitsAreFair
visits_fair = record {
  warm = all_warmed_fair;
  solve = all_solved_fair;
  bounce = all_bounced_fair;
  warm_is = λ i r e. warm_at r e i;
  solve_is = λ i r e. solve_at r e i;
  bounce_is = λ i r e. bounce_at r e i;
}
