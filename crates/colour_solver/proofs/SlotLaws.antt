-- What visits keep of rows: which constraint each is of, where its bodies stand, and its kind.
use Rattle.std.proofs.Common.{◌≡◌, ℕ, zero, suc, List, [], ◌∷◌, Option, Some, None, map, refl, sym, ap, ap₂, ◌∙◌}
use Rattle.fixed_geom.specs.declared.vectors.Vec2.{Vec2}
use Rattle.momenta.specs.declared.state.BodyState.{BodyState}
use Rattle.momenta.specs.declared.state.Ends.{Ends}
use Rattle.joint_rows.specs.declared.row.JointBodies.{JointBodies}
use Rattle.joint_rows.specs.declared.row.JointRow.{JointRow}
use Rattle.joint_rows.specs.Rows.{joint_solved, joint_warmed}
use Rattle.colour_solver_base.specs.declared.row.Bodies.{Bodies}
use Rattle.colour_solver_base.specs.declared.row.ContactRow.{ContactRow}
use Rattle.colour_solver_base.specs.declared.row.PointRow.{PointRow}
use Rattle.colour_solver_base.specs.declared.solve.PointAfter.{PointAfter}
use Rattle.colour_solver_base.specs.RowsAfter.{RowAfter}
use Rattle.colour_solver_base.specs.Rows.{after_first, at_points, point_bounced, point_solved, point_warmed, row_bounced, row_solved, row_warmed, then_second}
use Rattle.colour_solver.specs.declared.row_visits.Slots.{Slots}
use Rattle.colour_solver.specs.declared.constraint_row.ConstraintRow.{ConstraintRow}
use Rattle.colour_solver.specs.declared.constraint_row.ConstraintRow.TheVariants.{Contact, Joint}
use Rattle.colour_solver.specs.declared.phase.Phase.{Phase}
use Rattle.colour_solver.specs.declared.phase.Phase.TheVariants.{Bounce, Solve, Warm}
use Rattle.colour_solver.specs.ConstraintVisits.{RowName, constraint_slots, constraint_solved, constraint_warmed, is_joint, row_name, visited_joint}
use Rattle.colour_solver.specs.Phases.{constraint_visit}
use Rattle.colour_solver.specs.Ticks.{Run, tick, ticks}
use Rattle.colour_solver.specs.RowVisits.{after, ends_of, rows_passed}

-- ---- the constraint of one row

joint_warmed_name : (r : JointRow) (e : Ends) → (visited_joint (joint_warmed r e)).row.bodies ≡ r.bodies
unfolding joint_warmed
joint_warmed_name r e = refl

joint_solved_name : (r : JointRow) (e : Ends) → (visited_joint (joint_solved r e)).row.bodies ≡ r.bodies
unfolding joint_solved
joint_solved_name r e = refl

second_name : (f : PointRow → Ends → PointAfter) (t : RowAfter ContactRow) (o : Option PointRow) → (then_second f t o).row.bodies ≡ t.row.bodies
second_name f t None = refl
second_name f t (Some p) = refl

points_name : (f : PointRow → Ends → PointAfter) (r : ContactRow) (e : Ends) → (at_points f r e).row.bodies ≡ r.bodies
points_name f r e = second_name f (after_first r (f r.first e)) r.second

contact_warmed_name : (r : ContactRow) (e : Ends) → (row_warmed r e).row.bodies ≡ r.bodies
unfolding row_warmed
contact_warmed_name r e = points_name (λ p e. record { point = p; ends = point_warmed p e }) r e

contact_solved_name : (r : ContactRow) (e : Ends) → (row_solved r e).row.bodies ≡ r.bodies
unfolding row_solved
contact_solved_name r e = points_name (point_solved r.bodies.friction) r e

contact_bounced_name : (r : ContactRow) (e : Ends) → (row_bounced r e).row.bodies ≡ r.bodies
unfolding row_bounced
contact_bounced_name r e = points_name (point_bounced r.bodies.restitution) r e

abbrev of_joint : JointBodies → RowName
of_joint b = record { joint = Some b; contact = None }

abbrev of_contact : Bodies → RowName
of_contact b = record { joint = None; contact = Some b }

-- a visit leaves a row to its constraint
pub visit_name : (phase : Phase) (r : ConstraintRow) (e : Ends) → row_name (constraint_visit phase r e).row ≡ row_name r
visit_name Warm (Joint r) e = ap of_joint (joint_warmed_name r e)
visit_name Warm (Contact r) e = ap of_contact (contact_warmed_name r e)
visit_name Solve (Joint r) e = ap of_joint (joint_solved_name r e)
visit_name Solve (Contact r) e = ap of_contact (contact_solved_name r e)
visit_name Bounce (Joint r) e = refl
visit_name Bounce (Contact r) e = ap of_contact (contact_bounced_name r e)

-- and its bodies where they stand
abbrev pub contact_or : Option Bodies → Slots
contact_or None = record { a = 0; b = 0 }
contact_or (Some b) = record { a = b.a; b = b.b }

abbrev pub joint_or : Option JointBodies → Slots → Slots
joint_or None s = s
joint_or (Some b) s = record { a = b.a; b = b.b }

abbrev pub named_slots : RowName → Slots
named_slots n = joint_or n.joint (contact_or n.contact)

pub slots_named : (r : ConstraintRow) → constraint_slots r ≡ named_slots (row_name r)
slots_named (Joint r) = refl
slots_named (Contact r) = refl

pub visit_slots : (phase : Phase) (r : ConstraintRow) (e : Ends) → constraint_slots (constraint_visit phase r e).row ≡ constraint_slots r
visit_slots phase r e = slots_named (constraint_visit phase r e).row ∙ ap named_slots (visit_name phase r e) ∙ sym (slots_named r)

-- ---- a pass

-- what each visit keeps of its row stays in the whole list
pub passed_same : {R X : Type 0} (at : R → Slots) (f : R → Ends → RowAfter R) (k : R → X) → ((r : R) (e : Ends) → k (f r e).row ≡ k r) → (ss : List BodyState) (rs : List R) → map k (rows_passed at f ss rs) ≡ map k rs
passed_same at f k same ss [] = refl
passed_same {R} {X} at f k same ss (r ∷ rs) = ap₂ (λ (x : X) (l : List X). x ∷ l) (same r (ends_of at ss r)) (passed_same at f k same (after at f ss r) rs)

-- ---- the kinds of the rows of a step

pub visit_kind : (phase : Phase) (r : ConstraintRow) (e : Ends) → is_joint (constraint_visit phase r e).row ≡ is_joint r
visit_kind phase (Joint r) e = refl
visit_kind phase (Contact r) e = refl

warmed_kind : (r : ConstraintRow) (e : Ends) → is_joint (constraint_warmed r e).row ≡ is_joint r
warmed_kind (Joint r) e = refl
warmed_kind (Contact r) e = refl

solved_kind : (r : ConstraintRow) (e : Ends) → is_joint (constraint_solved r e).row ≡ is_joint r
solved_kind (Joint r) e = refl
solved_kind (Contact r) e = refl

kinds_passed : (f : ConstraintRow → Ends → RowAfter ConstraintRow) → ((r : ConstraintRow) (e : Ends) → is_joint (f r e).row ≡ is_joint r) → (ss : List BodyState) (rs : List ConstraintRow) → map is_joint (rows_passed constraint_slots f ss rs) ≡ map is_joint rs
kinds_passed f same ss rs = passed_same constraint_slots f is_joint same ss rs

tick_kinds : (g : Vec2) (r : Run) → map is_joint (tick g r).rows ≡ map is_joint r.rows
unfolding tick
tick_kinds g r = kinds_passed constraint_solved solved_kind _ _ ∙ kinds_passed constraint_warmed warmed_kind _ _

pub ticks_kinds : (n : ℕ) (g : Vec2) (r : Run) → map is_joint (ticks n g r).rows ≡ map is_joint r.rows
ticks_kinds zero g r = refl
ticks_kinds (suc n) g r = tick_kinds g (ticks n g r) ∙ ticks_kinds n g r
