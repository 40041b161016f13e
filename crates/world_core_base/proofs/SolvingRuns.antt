-- The passes over the arrays are those of the definition, and so is a whole step.
use Rattle.std.proofs.Common.{◌≡◌, ℕ, zero, suc, Bool, true, false, cond, List, [], ◌∷◌, ◌++◌, map, Option, Some, None, All, neg_ℤ, ◌+ℤ◌, refl, sym, ap, ap₂, ◌∙◌, subst}
use Rattle.std.specs.Prelude.{option_map}
use Rattle.std.specs.List.{filter_map, flat_map, cons_option}
use Rattle.std.proofs.lemmas.List.Elements.{filter_map-append}
use Rattle.std.specs.Option.{option_map_or}
use Rattle.fixed_geom.specs.Vectors.{plus}
use Rattle.fixed_geom.specs.declared.vectors.Vec2.{Vec2}
use Rattle.momenta.specs.Motions.{pulled, speed_clamped, advanced}
use Rattle.momenta.specs.Reciprocals.{reciprocals_of}
use Rattle.momenta.specs.declared.mass.MassData.{MassData}
use Rattle.momenta.specs.declared.motion.Motion.{Motion}
use Rattle.momenta.specs.declared.state.BodyState.{BodyState}
use Rattle.momenta.specs.declared.state.Ends.{Ends}
use Rattle.contacts_base.specs.Contacts.{lookup}
use Rattle.contacts_base.specs.declared.contact.Contact.{Contact}
use Rattle.contacts_base.specs.declared.contact.ContactEntry.{ContactEntry}
use Rattle.contacts_base.specs.declared.contact.ContactPoint.{ContactPoint}
use Rattle.plain_world.specs.declared.constraint.Constraint.{Constraint}
use Rattle.plain_world.specs.declared.constraint.Constraint.TheVariants as constraints
use Rattle.graph_colours.specs.declared.member.Member.{Member}
use Rattle.graph_colours.specs.Colours.{ids_of}
use Rattle.colour_solver_base.specs.declared.row.ContactRow.{ContactRow}
use Rattle.colour_solver_base.specs.RowsAfter.{RowAfter}
use Rattle.colour_solver_base.specs.Rows.{row_bounced, row_solved, row_warmed}
use Rattle.colour_solver_base.specs.ContactSolving.{SolvedPoint, at_points, contact_bounced, contact_solved, contact_warmed, from_first, point_bounced, point_solved, point_warmed}
use Rattle.colour_solver_base.specs.Laws.{AreMovedFrom}
use Rattle.colour_solver_base.proofs.ContactRows.{masses_then, rows_are_contacts, solved_masses, warmed_masses}
use Rattle.joint_rows.specs.declared.joint.Joint.{Joint}
use Rattle.joint_rows.specs.declared.limits.TheConstants.{MAX_JOINT_IMPULSE}
use Rattle.joint_rows.specs.declared.row.JointRow.{JointRow}
use Rattle.joint_rows.specs.declared.solve.JointAfter.{JointAfter}
use Rattle.joint_rows.specs.Joints.{joint_bias, direction_along, joint_gap, joint_line, joint_stretch, parted_along}
use Rattle.joint_rows.specs.Rows.{joint_solved, joint_warmed}
use Rattle.joint_rows.proofs.JointRows.{rows_are_joints}
use Rattle.colour_solver.specs.declared.constraint_row.ConstraintRow.{ConstraintRow}
use Rattle.colour_solver.specs.ConstraintVisits.{constraint_bounced, either_visit, joint_unbounced}
use Rattle.colour_solver.specs.Passes as arrays
use Rattle.colour_solver.specs.States as step
use Rattle.colour_solver.specs.States.{as_vector, nobody}
use Rattle.colour_solver.specs.Masses.{carrier, standing}
use Rattle.colour_solver.specs.Ticks as runs
use Rattle.colour_solver.specs.Ticks.{Run, carry_all, clamp_all, pull_all, ran, run_of, start, visit_all}
use Rattle.colour_solver.proofs.VectorLaws.{minus_same}
use Rattle.plain_world.specs.declared.body.Body.{Body}
use Rattle.plain_world.specs.declared.joint.BodyJoint.{BodyJoint}
use Rattle.plain_world.specs.Joints.{joint_at}
use Rattle.plain_world.specs.Bodies.{is_awake, is_carried}
use Rattle.plain_world.specs.Slots.{item_at}
use Rattle.world_core_base.specs.Carried.{solver_mass}
use Rattle.world_core_base.specs.ConstraintRows.{constraint_row, rows_in, rows_of}
use Rattle.world_core_base.specs.Gather.{bodies_of, state_of, states_of}
use Rattle.world_core_base.specs.Solving.{Moving, Solving, Visits, all_changed, carried_on, begin, bounce, carry, motion_changed, clamp, gain, gain_between, moving, pass, pull, solve, solve_order, solved, state_with, tick, ticks, row_visit, visit_between, visit_joined, warm, nothing}
use Rattle.world_core_base.specs.SolvingArrays.{CanSolve, HasEnds}
use Rattle.world_core_base.proofs.GatherLaws.{carried_state, mass_carried}
use Rattle.world_core_base.proofs.SolvingJoints.{all_ends_as, bare_joints}
use Rattle.world_core_base.proofs.SolvingVisits.{AreOnce, IsJointVisitBare, IsPassed, IsVisitAlike, bare_visit, held, pass_alike, rows_now, stood, stood_visit}

-- the run that a solving is
abbrev pub run_in : List (Option Body) → List Constraint → Solving → Run
run_in bodies order s = run_of (map held s.bodies) (rows_now (states_of bodies) s order) s.sums

-- the bodies stood so when the step began, and the joints are those but for their impulses
record IsOf (bodies : List (Option Body)) (joints : List (Option BodyJoint)) (s : Solving) : Type 0 where
  stands : stood s.bodies ≡ bodies
  barely : bare_joints s.joints ≡ bare_joints joints

-- A pass of the arrays is one of the definition.
record IsSamePass (bodies : List (Option Body)) (joints : List (Option BodyJoint)) (order : List Constraint) (over : Run → Run) (by : Solving → Solving) : Type 0 where
  run : (s : Solving) → IsOf bodies joints s → over (run_in bodies order s) ≡ run_in bodies order (by s)
  stays : (s : Solving) → IsOf bodies joints s → IsOf bodies joints (by s)

-- one pass after another
then_pass : (bodies : List (Option Body)) (joints : List (Option BodyJoint)) (order : List Constraint) (f g : Run → Run) (p q : Solving → Solving) → IsSamePass bodies joints order f p → IsSamePass bodies joints order g q → IsSamePass bodies joints order (λ r. g (f r)) (λ s. q (p s))
then_pass bodies joints order f g p q h k = record {
  run = λ s e. ap g (h.run s e) ∙ k.run (p s) (h.stays s e);
  stays = λ s e. k.stays (p s) (h.stays s e);
}

-- ---- a pass over the constraints

-- the other sums stay
record AreBookedAlike (s t : Solving) : Type 0 where
  gravity : t.sums.gravity ≡ s.sums.gravity
  clamp : t.sums.clamp ≡ s.sums.clamp

booked_visit : (f : Visits) (s : Solving) (id : Constraint) → AreBookedAlike s (row_visit f s id)
booked_visit f s (constraints.Joint h) = by (joint_at s.joints h.slot)
  where
    between : (j : BodyJoint) (a b : Option Moving) → AreBookedAlike s (visit_joined f s h.slot j a b)
    between j None b = record { gravity = refl; clamp = refl }
    between j (Some a) None = record { gravity = refl; clamp = refl }
    between j (Some a) (Some b) = record { gravity = refl; clamp = refl }

    by : (o : Option BodyJoint) → AreBookedAlike s (option_map_or (λ (j : BodyJoint). visit_joined f s h.slot j (item_at s.bodies j.a) (item_at s.bodies j.b)) o s)
    by None = record { gravity = refl; clamp = refl }
    by (Some j) = between j (item_at s.bodies j.a) (item_at s.bodies j.b)
booked_visit f s (constraints.Contact key) = by (lookup s.contacts key) (item_at s.bodies key.first.slot) (item_at s.bodies key.second.slot)
  where
    by : (o : Option ContactEntry) (a b : Option Moving) → AreBookedAlike s (visit_between f s key o a b)
    by None a b = record { gravity = refl; clamp = refl }
    by (Some e) None b = record { gravity = refl; clamp = refl }
    by (Some e) (Some a) None = record { gravity = refl; clamp = refl }
    by (Some e) (Some a) (Some b) = record { gravity = refl; clamp = refl }

booked_pass : (f : Visits) (order : List Constraint) (s : Solving) → AreBookedAlike s (pass f order s)
booked_pass f [] s = record { gravity = refl; clamp = refl }
booked_pass f (id ∷ order) s =
    let first : AreBookedAlike s (row_visit f s id) = booked_visit f s id in
    let rest : AreBookedAlike (row_visit f s id) (pass f order (row_visit f s id)) = booked_pass f order (row_visit f s id) in
    record { gravity = rest.gravity ∙ first.gravity; clamp = rest.clamp ∙ first.clamp }

stays_pass : (f : Visits) (bodies : List (Option Body)) (joints : List (Option BodyJoint)) (order : List Constraint) (s : Solving) → IsJointVisitBare f → IsOf bodies joints s → IsOf bodies joints (pass f order s)
stays_pass f bodies joints [] s law of = of
stays_pass f bodies joints (id ∷ order) s law of = stays_pass f bodies joints order (row_visit f s id) law (record { stands = stood_visit f s id ∙ of.stands; barely = bare_visit f s id law ∙ of.barely })

ends_of_all : (bodies : List (Option Body)) (joints : List (Option BodyJoint)) (order : List Constraint) (s : Solving) → IsOf bodies joints s → All (HasEnds bodies joints) order → All (HasEnds (stood s.bodies) s.joints) order
ends_of_all bodies joints order s of there =
    all_ends_as (stood s.bodies) joints s.joints order (sym of.barely) (subst (λ (l : List (Option Body)). All (HasEnds l joints) order) (sym of.stands) there)

same_visits : (f : Visits) (k : JointRow → Ends → JointAfter) (g : ContactRow → Ends → RowAfter ContactRow) (bodies : List (Option Body)) (joints : List (Option BodyJoint)) (order : List Constraint) → IsVisitAlike f k g → AreOnce order → All (HasEnds bodies joints) order
    → IsSamePass bodies joints order (visit_all (either_visit k g)) (pass f order)
same_visits f k g bodies joints order law once there = record {
  run = λ s e.
      let h : IsPassed (either_visit k g) (states_of bodies) (map held s.bodies) (rows_now (states_of bodies) s order) s.sums.immovable order (pass f order s) =
      pass_alike f k g order s (states_of bodies) (map held s.bodies) law once (ends_of_all bodies joints order s e there) (ap states_of (sym e.stands)) refl in
      let booked : AreBookedAlike s (pass f order s) = booked_pass f order s in
      λ j. record {
        states = h.bodies j;
        rows = h.rows_left j;
        gravity = as_vector (sym booked.gravity j);
        immovable = h.sum j;
        clamp = as_vector (sym booked.clamp j);
      };
  stays = λ s e. stays_pass f bodies joints order s law.joint_bare e;
}

-- ---- a pass over the bodies

-- the mass that a body shows, where t tells whether it is an awake mover
abbrev shown_if : Bool → Body → MassData
shown_if t b = cond t b.mass (cond (is_carried b) carrier standing)

-- a mover's state where t tells whether it moves
abbrev state_if : Bool → Moving → BodyState
state_if t m = record { movable = t; mass = shown_if t m.body; motion = m.motion; start = m.body.motion.x; reciprocals = reciprocals_of (shown_if t m.body) }

changed_by : (t : Bool) (f : MassData → Motion → Motion) (m : Moving)
    → arrays.changed f (state_if t m) ≡ record (state_if t m) { motion = (cond t (record m { motion = f m.body.mass m.motion }) m).motion }
changed_by true f m = refl
changed_by false f m = refl

body_changed_by : (t : Bool) (m n : Moving) → n.body ≡ m.body → (cond t n m).body ≡ m.body
body_changed_by true m n e = e
body_changed_by false m n e = refl

held_changed : (f : MassData → Motion → Motion) (o : Option Moving) → arrays.changed f (held o) ≡ held (option_map (motion_changed f) o)
held_changed f None = refl
held_changed f (Some m) = changed_by (is_awake m.body) f m ∙ ap (λ (b : Body). state_with b (motion_changed f m).motion) (sym (body_changed_by (is_awake m.body) m (record m { motion = f m.body.mass m.motion }) refl))

all_held : (f : MassData → Motion → Motion) (ms : List (Option Moving)) → arrays.pass f (map held ms) ≡ map held (all_changed f ms)
all_held f [] = refl
all_held f (o ∷ ms) = λ j. held_changed f o j ∷ all_held f ms j

stood_changed : (f : MassData → Motion → Motion) (ms : List (Option Moving)) → stood (all_changed f ms) ≡ stood ms
stood_changed f [] = refl
stood_changed f (None ∷ ms) = ap (λ (l : List (Option Body)). None ∷ l) (stood_changed f ms)
stood_changed f (Some m ∷ ms) = λ j. Some (body_changed_by (is_awake m.body) m (record m { motion = f m.body.mass m.motion }) refl j) ∷ stood_changed f ms j

gain_by : (t : Bool) (f : MassData → Motion → Motion) (m : Moving) → arrays.one_gain f (state_if t m) ≡ as_vector (gain_between m.motion (cond t (record m { motion = f m.body.mass m.motion }) m).motion)
gain_by true f m = refl
gain_by false f m = sym (minus_same m.motion.p)

one_gain : (f : MassData → Motion → Motion) (o : Option Moving) → arrays.one_gain f (held o) ≡ as_vector (option_map_or (λ (m : Moving). gain_between m.motion (motion_changed f m).motion) o nothing)
one_gain f None = refl
one_gain f (Some m) = gain_by (is_awake m.body) f m

all_gain : (f : MassData → Motion → Motion) (ms : List (Option Moving)) → arrays.gain f (map held ms) ≡ as_vector (gain f ms)
all_gain f [] = refl
all_gain f (o ∷ ms) = ap₂ plus (one_gain f o) (all_gain f ms)

same_pull : (g : Vec2) (bodies : List (Option Body)) (joints : List (Option BodyJoint)) (order : List Constraint) → IsSamePass bodies joints order (pull_all g) (pull g)
same_pull g bodies joints order = record {
  run = λ s e. λ j. record {
    states = all_held (pulled g) s.bodies j;
    rows = rows_now (states_of bodies) s order;
    gravity = plus (as_vector s.sums.gravity) (all_gain (pulled g) s.bodies j);
    immovable = as_vector s.sums.immovable;
    clamp = as_vector s.sums.clamp;
  };
  stays = λ s e. record { stands = stood_changed (pulled g) s.bodies ∙ e.stands; barely = e.barely };
}

same_clamp : (f : MassData → Motion → Motion) (bodies : List (Option Body)) (joints : List (Option BodyJoint)) (order : List Constraint) → IsSamePass bodies joints order (clamp_all f) (clamp f)
same_clamp f bodies joints order = record {
  run = λ s e. λ j. record {
    states = all_held f s.bodies j;
    rows = rows_now (states_of bodies) s order;
    gravity = as_vector s.sums.gravity;
    immovable = as_vector s.sums.immovable;
    clamp = plus (as_vector s.sums.clamp) (all_gain f s.bodies j);
  };
  stays = λ s e. record { stands = stood_changed f s.bodies ∙ e.stands; barely = e.barely };
}

-- ---- the bodies that are carried along

along_by : (t : Bool) (m : Moving) → step.is_carried (state_with m.body m.motion) ≡ t → is_carried m.body ≡ t → arrays.carried_along (state_with m.body m.motion) ≡ state_with (cond t (record m { motion = advanced carrier m.motion }) m).body (cond t (record m { motion = advanced carrier m.motion }) m).motion
along_by true m e f =
    let mass : solver_mass m.body ≡ carrier = mass_carried m.body f in
    (λ j. cond (e j) (record (state_with m.body m.motion) { motion = advanced (solver_mass m.body) m.motion }) (state_with m.body m.motion)) ∙ (λ j. record (state_with m.body m.motion) { motion = advanced (mass j) m.motion })
along_by false m e f = (λ j. cond (e j) (record (state_with m.body m.motion) { motion = advanced (solver_mass m.body) m.motion }) (state_with m.body m.motion))

held_along : (o : Option Moving) → arrays.carried_along (held o) ≡ held (option_map carried_on o)
held_along None = refl
held_along (Some m) = along_by (is_carried m.body) m (carried_state m.body) refl ∙ (λ j. along_there (is_carried m.body) m j)
  where
    along_there : (t : Bool) (m : Moving) → state_with (cond t (record m { motion = advanced carrier m.motion }) m).body (cond t (record m { motion = advanced carrier m.motion }) m).motion ≡ held (Some (cond t (record m { motion = advanced carrier m.motion }) m))
    along_there t m = refl

all_along : (ms : List (Option Moving)) → arrays.carry (map held ms) ≡ map held (map (option_map carried_on) ms)
all_along [] = refl
all_along (o ∷ ms) = λ j. held_along o j ∷ all_along ms j

stood_along : (ms : List (Option Moving)) → stood (map (option_map carried_on) ms) ≡ stood ms
stood_along [] = refl
stood_along (None ∷ ms) = ap (λ (l : List (Option Body)). None ∷ l) (stood_along ms)
stood_along (Some m ∷ ms) = λ j. Some (body_changed_by (is_carried m.body) m (record m { motion = advanced carrier m.motion }) refl j) ∷ stood_along ms j

same_carry : (bodies : List (Option Body)) (joints : List (Option BodyJoint)) (order : List Constraint) → IsSamePass bodies joints order carry_all carry
same_carry bodies joints order = record {
  run = λ s e. λ j. record {
    states = all_along s.bodies j;
    rows = rows_now (states_of bodies) s order;
    gravity = as_vector s.sums.gravity;
    immovable = as_vector s.sums.immovable;
    clamp = as_vector s.sums.clamp;
  };
  stays = λ s e. record { stands = stood_along s.bodies ∙ e.stands; barely = e.barely };
}

-- ---- the visits of contacts that don't touch

idle_points : (f : ContactPoint → Ends → SolvedPoint) (c : Contact) (now : Ends) → c.first ≡ None → at_points f c now ≡ record { contact = c; ends = now }
idle_points f c now is = ap (λ (o : Option ContactPoint). from_first f c now o) is

warm_idle : (e : ContactEntry) (begun now : Ends) → e.contact.first ≡ None → warm.contact e begun now ≡ record { contact = e.contact; ends = now }
unfolding contact_warmed
warm_idle e begun now is = idle_points (λ p n. record { point = p; ends = point_warmed p n }) e.contact now is

solve_idle : (e : ContactEntry) (begun now : Ends) → e.contact.first ≡ None → solve.contact e begun now ≡ record { contact = e.contact; ends = now }
unfolding contact_solved
solve_idle e begun now is = idle_points (point_solved e.surface.friction) e.contact now is

bounce_idle : (e : ContactEntry) (begun now : Ends) → e.contact.first ≡ None → bounce.contact e begun now ≡ record { contact = e.contact; ends = now }
unfolding contact_bounced
bounce_idle e begun now is = idle_points (point_bounced e.surface.restitution begun) e.contact now is

-- ---- the visits of joints

joint_warm_moved : (begun now : Ends) (j : Joint) → AreMovedFrom begun now → AreMovedFrom begun (warm.joint j begun now).ends
joint_warm_moved begun now j h = masses_then begun now (warm.joint j begun now).ends h (warmed_masses (joint_line j begun) j.impulse now)

joint_solve_moved : (begun now : Ends) (j : Joint) → AreMovedFrom begun now → AreMovedFrom begun (solve.joint j begun now).ends
joint_solve_moved begun now j h =
    masses_then begun now (solve.joint j begun now).ends h
    (solved_masses (joint_line j begun) (joint_bias (joint_stretch j begun +ℤ parted_along (direction_along (joint_gap j begun)) now)) (neg_ℤ MAX_JOINT_IMPULSE) MAX_JOINT_IMPULSE j.impulse now)

warm_alike : IsVisitAlike warm joint_warmed row_warmed
warm_alike = record {
  alike = λ key e begun now r is h. rows_are_contacts.warm (bodies_of key e.surface) begun now e.contact r is h;
  idle = warm_idle;
  joint = λ bodies begun now j. rows_are_joints.warm bodies begun now j;
  joint_moved = joint_warm_moved;
  joint_bare = λ j begun now. refl;
}

solve_alike : IsVisitAlike solve joint_solved row_solved
solve_alike = record {
  alike = λ key e begun now r is h. rows_are_contacts.solve (bodies_of key e.surface) begun now e.contact r is h;
  idle = solve_idle;
  joint = λ bodies begun now j. rows_are_joints.solve bodies begun now j;
  joint_moved = joint_solve_moved;
  joint_bare = λ j begun now. refl;
}

bounce_alike : IsVisitAlike bounce joint_unbounced row_bounced
bounce_alike = record {
  alike = λ key e begun now r is h. rows_are_contacts.bounce (bodies_of key e.surface) begun now e.contact r is h;
  idle = bounce_idle;
  joint = λ bodies begun now j. refl;
  joint_moved = λ begun now j h. h;
  joint_bare = λ j begun now. refl;
}

-- ---- ticks, and the restitution

same_tick : (g : Vec2) (bodies : List (Option Body)) (joints : List (Option BodyJoint)) (order : List Constraint) → AreOnce order → All (HasEnds bodies joints) order → IsSamePass bodies joints order (runs.tick g) (tick g order)
unfolding runs.tick
same_tick g bodies joints order once there =
    then_pass bodies joints order _ _ _ _ (same_pull g bodies joints order)
    (then_pass bodies joints order _ _ _ _ (same_clamp speed_clamped bodies joints order)
    (then_pass bodies joints order _ _ _ _ (same_visits warm joint_warmed row_warmed bodies joints order warm_alike once there)
    (then_pass bodies joints order _ _ _ _ (same_visits solve joint_solved row_solved bodies joints order solve_alike once there)
    (then_pass bodies joints order _ _ _ _ (same_clamp speed_clamped bodies joints order)
    (then_pass bodies joints order _ _ _ _ (same_clamp advanced bodies joints order) (same_carry bodies joints order))))))

same_none : (bodies : List (Option Body)) (joints : List (Option BodyJoint)) (order : List Constraint) → IsSamePass bodies joints order (λ r. r) (λ s. s)
same_none bodies joints order = record { run = λ s e. refl; stays = λ s e. e }

same_ticks : (n : ℕ) (g : Vec2) (bodies : List (Option Body)) (joints : List (Option BodyJoint)) (order : List Constraint) → AreOnce order → All (HasEnds bodies joints) order → IsSamePass bodies joints order (runs.ticks n g) (ticks n g order)
same_ticks zero g bodies joints order once there = same_none bodies joints order
same_ticks (suc n) g bodies joints order once there = then_pass bodies joints order (runs.ticks n g) (runs.tick g) (ticks n g order) (tick g order) (same_ticks n g bodies joints order once there) (same_tick g bodies joints order once there)

same_ran : (n : ℕ) (g : Vec2) (bodies : List (Option Body)) (joints : List (Option BodyJoint)) (order : List Constraint) → AreOnce order → All (HasEnds bodies joints) order → IsSamePass bodies joints order (ran n g) (λ s. pass bounce order (ticks n g order s))
unfolding ran
same_ran n g bodies joints order once there =
    then_pass bodies joints order (runs.ticks n g) (visit_all constraint_bounced) (ticks n g order) (pass bounce order) (same_ticks n g bodies joints order once there) (same_visits bounce joint_unbounced row_bounced bodies joints order bounce_alike once there)

-- ---- what a step begins with

begun_states : (bodies : List (Option Body)) → states_of bodies ≡ map held (map (option_map moving) bodies)
begun_states [] = refl
begun_states (None ∷ bodies) = ap (λ (l : List BodyState). nobody ∷ l) (begun_states bodies)
begun_states (Some b ∷ bodies) = ap (λ (l : List BodyState). state_of (Some b) ∷ l) (begun_states bodies)

pub begun_stood : (bodies : List (Option Body)) → stood (map (option_map moving) bodies) ≡ bodies
begun_stood [] = refl
begun_stood (None ∷ bodies) = ap (λ (l : List (Option Body)). None ∷ l) (begun_stood bodies)
begun_stood (Some b ∷ bodies) = ap (λ (l : List (Option Body)). Some b ∷ l) (begun_stood bodies)

rows_of_ids : (h : Constraint → Option ConstraintRow) (ms : List (Member Constraint)) → filter_map (λ (m : Member Constraint). h m.id) ms ≡ filter_map h (map (λ (m : Member Constraint). m.id) ms)
rows_of_ids h [] = refl
rows_of_ids h (m ∷ ms) = ap (λ (l : List ConstraintRow). cons_option (h m.id) l) (rows_of_ids h ms)

rows_in_order : (states : List BodyState) (joints : List (Option BodyJoint)) (contacts : List ContactEntry) (lists : List (List (Member Constraint))) → flat_map (rows_in states joints contacts) lists ≡ filter_map (constraint_row states joints contacts) (solve_order (ids_of lists))
rows_in_order states joints contacts [] = refl
rows_in_order states joints contacts (ms ∷ lists) =
    ap (λ (l : List ConstraintRow). l ++ flat_map (rows_in states joints contacts) lists) (rows_of_ids (constraint_row states joints contacts) ms)
    ∙ ap (λ (l : List ConstraintRow). filter_map (constraint_row states joints contacts) (map (λ (m : Member Constraint). m.id) ms) ++ l) (rows_in_order states joints contacts lists)
    ∙ sym (filter_map-append (constraint_row states joints contacts) (map (λ (m : Member Constraint). m.id) ms) (solve_order (ids_of lists)))

pub begun_rows : (states : List BodyState) (joints : List (Option BodyJoint)) (contacts : List ContactEntry) (lists : List (List (Member Constraint))) → rows_of states joints contacts lists ≡ filter_map (constraint_row states joints contacts) (solve_order (ids_of lists))
unfolding rows_of
begun_rows states joints contacts lists = rows_in_order states joints contacts lists

begun_of : (bodies : List (Option Body)) (joints : List (Option BodyJoint)) (contacts : List ContactEntry) → IsOf bodies joints (begin bodies joints contacts)
begun_of bodies joints contacts = record { stands = begun_stood bodies; barely = refl }

-- the arrays of a whole step are those of the solving that the definition ends with
pub ran_alike : (n : ℕ) (g : Vec2) (bodies : List (Option Body)) (joints : List (Option BodyJoint)) (contacts : List ContactEntry) (lists : List (List (Member Constraint))) → CanSolve bodies joints (solve_order (ids_of lists))
    → ran n g (start (states_of bodies) (rows_of (states_of bodies) joints contacts lists)) ≡ run_in bodies (solve_order (ids_of lists)) (solved n g (solve_order (ids_of lists)) bodies joints contacts)
unfolding solved
ran_alike n g bodies joints contacts lists can =
    let order : List Constraint = solve_order (ids_of lists) in
    let law : IsSamePass bodies joints order (ran n g) (λ s. pass bounce order (ticks n g order s)) = same_ran n g bodies joints order can.once can.there in
    let first : start (states_of bodies) (rows_of (states_of bodies) joints contacts lists) ≡ run_in bodies order (begin bodies joints contacts) = (λ j. start (begun_states bodies j) (begun_rows (states_of bodies) joints contacts lists j)) in
    ap (ran n g) first ∙ law.run (begin bodies joints contacts) (begun_of bodies joints contacts)

pub solved_stood : (n : ℕ) (g : Vec2) (bodies : List (Option Body)) (joints : List (Option BodyJoint)) (contacts : List ContactEntry) (order : List Constraint) → CanSolve bodies joints order → stood (solved n g order bodies joints contacts).bodies ≡ bodies
unfolding solved
solved_stood n g bodies joints contacts order can =
    let law : IsSamePass bodies joints order (ran n g) (λ s. pass bounce order (ticks n g order s)) = same_ran n g bodies joints order can.once can.there in
    (law.stays (begin bodies joints contacts) (begun_of bodies joints contacts)).stands
