-- A visit in the arrays is the visit of the definition, and so is a pass over the constraints.
use Rattle.std.proofs.Common.{◌≡◌, ℕ, zero, suc, Bool, true, false, cond, List, [], ◌∷◌, map, is_some, Option, Some, None, All, ℤ, pos, ◌+ℤ◌, ◌-ℤ◌, arith, refl, sym, ap, ◌∙◌, subst, slice_set, slice_index_or}
use Rattle.std.specs.Prelude.{option_map}
use Rattle.std.specs.List.{AllPairs, filter_map, cons_option}
use Rattle.std.proofs.lemmas.Int.{ints}
use Rattle.std.proofs.lemmas.List.Elements.{All-head, All-tail}
use Rattle.std.proofs.lemmas.Option.{none-some, same_Some}
use Rattle.std.specs.Option.{option_map_or}
use Rattle.body_handles.specs.declared.handle.Handle.{Handle}
use Rattle.joint_rows.specs.Rows.{joint_row}
use Rattle.joint_rows.specs.Joints.{SolvedJoint}
use Rattle.joint_rows.specs.declared.joint.Joint.{Joint}
use Rattle.joint_rows.specs.declared.row.JointBodies.{JointBodies}
use Rattle.joint_rows.specs.declared.row.JointRow.{JointRow}
use Rattle.joint_rows.specs.declared.solve.JointAfter.{JointAfter}
use Rattle.momenta.specs.declared.gain.Gain.{Gain}
use Rattle.momenta.specs.declared.mass.MassData.{MassData}
use Rattle.momenta.specs.declared.motion.Motion.{Motion}
use Rattle.momenta.specs.declared.reciprocals.Reciprocals.{Reciprocals}
use Rattle.momenta.specs.declared.state.BodyState.{BodyState}
use Rattle.momenta.specs.declared.state.Ends.{Ends}
use Rattle.fixed_geom.specs.Vectors as vectors
use Rattle.fixed_geom.specs.declared.vectors.Vec2.{Vec2}
use Rattle.contacts_base.specs.Contacts.{lookup}
use Rattle.contacts_base.specs.declared.contact.ContactEntry.{ContactEntry}
use Rattle.contacts_base.specs.declared.contact.ContactPoint.{ContactPoint}
use Rattle.contacts_base.specs.declared.key.ContactKey.{ContactKey}
use Rattle.plain_world.specs.declared.constraint.Constraint.{Constraint}
use Rattle.plain_world.specs.declared.constraint.Constraint.TheVariants as constraints
use Rattle.colour_solver_base.specs.declared.row.Bodies as pairs
use Rattle.colour_solver_base.specs.declared.row.ContactRow.{ContactRow}
use Rattle.colour_solver_base.specs.RowsAfter.{RowAfter}
use Rattle.colour_solver_base.specs.Rows.{contact_row, row_from}
use Rattle.colour_solver_base.specs.ContactSolving.{SolvedContact}
use Rattle.colour_solver_base.specs.Laws.{AreMovedFrom, IsMovedFrom, IsRowOf}
use Rattle.colour_solver.specs.declared.ticks.StepSums.{StepSums}
use Rattle.colour_solver.proofs.VectorLaws.{plus_assoc, plus_zero}
use Rattle.colour_solver.specs.States.{as_vector, nobody}
use Rattle.colour_solver.specs.declared.row_visits.Slots.{Slots}
use Rattle.colour_solver.specs.declared.constraint_row.ConstraintRow.{ConstraintRow}
use Rattle.colour_solver.specs.declared.constraint_row.ConstraintRow.TheVariants as rows
use Rattle.colour_solver.specs.ConstraintVisits.{constraint_slots, either_visit}
use Rattle.colour_solver.specs.RowVisits.{after, ends_of, got, got_by, passed, rows_passed, share, visit_of}
use Rattle.plain_world.specs.declared.body.Body.{Body}
use Rattle.plain_world.specs.declared.joint.BodyJoint.{BodyJoint}
use Rattle.plain_world.specs.Joints.{joint_at}
use Rattle.plain_world.specs.Slots.{body_at, item_at}
use Rattle.world_core_base.specs.Carried.{solver_motion}
use Rattle.world_core_base.specs.Gather.{bodies_of, ends_at, row_in, row_of, state_of, states_of}
use Rattle.world_core_base.specs.ConstraintRows.{constraint_row, joint_bodies, joint_ends, joint_row_in}
use Rattle.world_core_base.specs.Solving.{Moving, Solving, Visits, ends_now, ends_then, gain_between, given_by_immovable, after_impulse, nothing, pass, gain_sum, put_back, put_joint_back, state_with, row_visit, visit_between, visit_joined, with_contact}
use Rattle.world_core_base.specs.SolvingArrays.{AreOther, HasEnds, JointHasEnds}
use Rattle.world_core_base.proofs.ContactLaws.{row_bodies, row_is}
use Rattle.world_core_base.proofs.SolvingJoints.{all_ends_as, bare_joint, bare_joints, bare_put, joint_put_other, joint_put_same}
use Rattle.world_core_base.proofs.SolvingContacts.{lookup_put_same, put_idle, row_put_other}

-- ---- the bodies as states

abbrev pub held : Option Moving → BodyState
held None = nobody
held (Some m) = state_with m.body m.motion

abbrev pub body_of : Option Moving → Option Body
body_of o = option_map (λ (m : Moving). m.body) o

-- the bodies as they stood when the step began
abbrev pub stood : List (Option Moving) → List (Option Body)
stood bodies = map body_of bodies

held_at : (ms : List (Option Moving)) (slot : ℕ) (m : Moving) → item_at ms slot ≡ Some m → slice_index_or (map held ms) slot nobody ≡ state_with m.body m.motion
held_at [] slot m e = cc
held_at (o ∷ os) zero m e = ap held e
held_at (o ∷ os) (suc slot) m e = held_at os slot m e

then_at : (ms : List (Option Moving)) (slot : ℕ) (m : Moving) → item_at ms slot ≡ Some m → slice_index_or (states_of (stood ms)) slot nobody ≡ state_with m.body (solver_motion m.body)
then_at [] slot m e = cc
then_at (o ∷ os) zero m e = ap (λ (p : Option Moving). state_of (body_of p)) e
then_at (o ∷ os) (suc slot) m e = then_at os slot m e

body_there : (ms : List (Option Moving)) (slot : ℕ) → body_at (stood ms) slot ≡ body_of (item_at ms slot)
body_there [] slot = refl
body_there (o ∷ os) zero = refl
body_there (o ∷ os) (suc slot) = body_there os slot

state_made : (s : BodyState) (movable : Bool) (mass : MassData) (start : Vec2) (reciprocals : Reciprocals) → s.movable ≡ movable → s.mass ≡ mass → s.start ≡ start → s.reciprocals ≡ reciprocals
    → record { movable = movable; mass = mass; motion = s.motion; start = start; reciprocals = reciprocals } ≡ s
state_made s movable mass start reciprocals e f g h = sym (λ i. record { movable = e i; mass = f i; motion = s.motion; start = g i; reciprocals = h i })

left_is : (m : Moving) (s : BodyState) → IsMovedFrom (state_with m.body (solver_motion m.body)) s → held (Some (after_impulse s m)) ≡ s
left_is m s h = state_made s _ _ _ _ h.movable h.mass h.start h.reciprocals

set_map : {A B : Type 0} (f : A → B) (xs : List A) (i : ℕ) (x : A) → slice_set (map f xs) i (f x) ≡ map f (slice_set xs i x)
set_map f [] i x = refl
set_map f (y ∷ xs) zero x = refl
set_map {A} {B} f (y ∷ xs) (suc i) x = ap (λ (l : List B). f y ∷ l) (set_map f xs i x)

held_put : (ms : List (Option Moving)) (slot : ℕ) (s : BodyState) (m : Moving) → IsMovedFrom (state_with m.body (solver_motion m.body)) s → slice_set (map held ms) slot s ≡ map held (slice_set ms slot (Some (after_impulse s m)))
held_put ms slot s m h = ap (λ (t : BodyState). slice_set (map held ms) slot t) (sym (left_is m s h)) ∙ set_map held ms slot (Some (after_impulse s m))

-- ---- what stays

set_there : (ms : List (Option Moving)) (slot : ℕ) (m : Moving) → item_at ms slot ≡ Some m → slice_set ms slot (Some m) ≡ ms
set_there [] slot m e = refl
set_there (o ∷ os) zero m e = ap (λ (p : Option Moving). p ∷ os) (sym e)
set_there (o ∷ os) (suc slot) m e = ap (λ (l : List (Option Moving)). o ∷ l) (set_there os slot m e)

stood_set : (ms : List (Option Moving)) (slot : ℕ) (m : Moving) → body_at (stood ms) slot ≡ Some m.body → stood (slice_set ms slot (Some m)) ≡ stood ms
stood_set [] slot m e = refl
stood_set (o ∷ os) zero m e = ap (λ (p : Option Body). p ∷ stood os) (sym e)
stood_set (o ∷ os) (suc slot) m e = ap (λ (l : List (Option Body)). body_of o ∷ l) (stood_set os slot m e)

stood_put : (ms : List (Option Moving)) (i j : ℕ) (a b x y : Moving) → item_at ms i ≡ Some a → item_at ms j ≡ Some b → x.body ≡ a.body → y.body ≡ b.body → stood (slice_set (slice_set ms i (Some x)) j (Some y)) ≡ stood ms
stood_put ms i j a b x y at_a at_b e f =
    let first : stood (slice_set ms i (Some x)) ≡ stood ms = stood_set ms i x (body_there ms i ∙ ap body_of at_a ∙ ap Some (sym e)) in
    stood_set (slice_set ms i (Some x)) j y (ap (λ (l : List (Option Body)). body_at l j) first ∙ body_there ms j ∙ ap body_of at_b ∙ ap Some (sym f)) ∙ first

pub stood_visit : (f : Visits) (s : Solving) (id : Constraint) → stood (row_visit f s id).bodies ≡ stood s.bodies
stood_visit f s (constraints.Joint h) = by (joint_at s.joints h.slot)
  where
    between : (j : BodyJoint) (a b : Option Moving) → item_at s.bodies j.a ≡ a → item_at s.bodies j.b ≡ b → stood (visit_joined f s h.slot j a b).bodies ≡ stood s.bodies
    between j None b at_a at_b = refl
    between j (Some a) None at_a at_b = refl
    between j (Some a) (Some b) at_a at_b =
        let t : SolvedJoint = f.joint j.joint (ends_then a b) (ends_now a b) in
        stood_put s.bodies j.a j.b a b (after_impulse t.ends.a a) (after_impulse t.ends.b b) at_a at_b refl refl

    by : (o : Option BodyJoint) → stood (option_map_or (λ (j : BodyJoint). visit_joined f s h.slot j (item_at s.bodies j.a) (item_at s.bodies j.b)) o s).bodies ≡ stood s.bodies
    by None = refl
    by (Some j) = between j (item_at s.bodies j.a) (item_at s.bodies j.b) refl refl
stood_visit f s (constraints.Contact key) = by (lookup s.contacts key) (item_at s.bodies key.first.slot) (item_at s.bodies key.second.slot) refl refl
  where
    by : (o : Option ContactEntry) (a b : Option Moving) → item_at s.bodies key.first.slot ≡ a → item_at s.bodies key.second.slot ≡ b → stood (visit_between f s key o a b).bodies ≡ stood s.bodies
    by None a b at_a at_b = refl
    by (Some e) None b at_a at_b = refl
    by (Some e) (Some a) None at_a at_b = refl
    by (Some e) (Some a) (Some b) at_a at_b =
        let t : SolvedContact = f.contact e (ends_then a b) (ends_now a b) in
        stood_put s.bodies key.first.slot key.second.slot a b (after_impulse t.ends.a a) (after_impulse t.ends.b b) at_a at_b refl refl

-- a visit that changes a joint in its impulse alone
abbrev pub IsJointVisitBare : Visits → Type 0
IsJointVisitBare f = (j : BodyJoint) (begun now : Ends) → bare_joint (record j { joint = (f.joint j.joint begun now).joint }) ≡ bare_joint j

pub bare_visit : (f : Visits) (s : Solving) (id : Constraint) → IsJointVisitBare f → bare_joints (row_visit f s id).joints ≡ bare_joints s.joints
bare_visit f s (constraints.Contact key) law = by (lookup s.contacts key) (item_at s.bodies key.first.slot) (item_at s.bodies key.second.slot)
  where
    by : (o : Option ContactEntry) (a b : Option Moving) → bare_joints (visit_between f s key o a b).joints ≡ bare_joints s.joints
    by None a b = refl
    by (Some e) None b = refl
    by (Some e) (Some a) None = refl
    by (Some e) (Some a) (Some b) = refl
bare_visit f s (constraints.Joint h) law = by (joint_at s.joints h.slot) refl
  where
    between : (j : BodyJoint) (a b : Option Moving) → joint_at s.joints h.slot ≡ Some j → bare_joints (visit_joined f s h.slot j a b).joints ≡ bare_joints s.joints
    between j None b is = refl
    between j (Some a) None is = refl
    between j (Some a) (Some b) is = bare_put s.joints h.slot j (record j { joint = (f.joint j.joint (ends_then a b) (ends_now a b)).joint }) is (law j (ends_then a b) (ends_now a b))

    by : (o : Option BodyJoint) → joint_at s.joints h.slot ≡ o → bare_joints (option_map_or (λ (j : BodyJoint). visit_joined f s h.slot j (item_at s.bodies j.a) (item_at s.bodies j.b)) o s).joints ≡ bare_joints s.joints
    by None is = refl
    by (Some j) is = between j (item_at s.bodies j.a) (item_at s.bodies j.b) is

-- ---- other constraints' rows stay

row_joint_other : (f : Visits) (states : List BodyState) (s : Solving) (h : Handle) (other : Constraint) → AreOther (constraints.Joint h) other → constraint_row states (row_visit f s (constraints.Joint h)).joints (row_visit f s (constraints.Joint h)).contacts other ≡ constraint_row states s.joints s.contacts other
row_joint_other f states s h (constraints.Joint k) ne = by (joint_at s.joints h.slot)
  where
    between : (j : BodyJoint) (a b : Option Moving) → constraint_row states (visit_joined f s h.slot j a b).joints s.contacts (constraints.Joint k) ≡ constraint_row states s.joints s.contacts (constraints.Joint k)
    between j None b = refl
    between j (Some a) None = refl
    between j (Some a) (Some b) =
        ap (λ (o : Option BodyJoint). option_map rows.Joint (joint_row_in states k.slot o)) (joint_put_other s.joints h.slot k.slot (Some (record j { joint = (f.joint j.joint (ends_then a b) (ends_now a b)).joint })) ne)

    by : (o : Option BodyJoint) → constraint_row states (option_map_or (λ (j : BodyJoint). visit_joined f s h.slot j (item_at s.bodies j.a) (item_at s.bodies j.b)) o s).joints s.contacts (constraints.Joint k) ≡ constraint_row states s.joints s.contacts (constraints.Joint k)
    by None = refl
    by (Some j) = between j (item_at s.bodies j.a) (item_at s.bodies j.b)
row_joint_other f states s h (constraints.Contact key) ne = by (joint_at s.joints h.slot)
  where
    between : (j : BodyJoint) (a b : Option Moving) → constraint_row states (visit_joined f s h.slot j a b).joints (visit_joined f s h.slot j a b).contacts (constraints.Contact key) ≡ constraint_row states s.joints s.contacts (constraints.Contact key)
    between j None b = refl
    between j (Some a) None = refl
    between j (Some a) (Some b) = refl

    by : (o : Option BodyJoint) → constraint_row states (option_map_or (λ (j : BodyJoint). visit_joined f s h.slot j (item_at s.bodies j.a) (item_at s.bodies j.b)) o s).joints (option_map_or (λ (j : BodyJoint). visit_joined f s h.slot j (item_at s.bodies j.a) (item_at s.bodies j.b)) o s).contacts (constraints.Contact key) ≡ constraint_row states s.joints s.contacts (constraints.Contact key)
    by None = refl
    by (Some j) = between j (item_at s.bodies j.a) (item_at s.bodies j.b)

row_contact_other : (f : Visits) (states : List BodyState) (s : Solving) (key : ContactKey) (other : Constraint) → AreOther (constraints.Contact key) other → constraint_row states (row_visit f s (constraints.Contact key)).joints (row_visit f s (constraints.Contact key)).contacts other ≡ constraint_row states s.joints s.contacts other
row_contact_other f states s key other ne = by other (lookup s.contacts key) (item_at s.bodies key.first.slot) (item_at s.bodies key.second.slot) ne
  where
    by : (other : Constraint) (o : Option ContactEntry) (a b : Option Moving) → AreOther (constraints.Contact key) other → constraint_row states (visit_between f s key o a b).joints (visit_between f s key o a b).contacts other ≡ constraint_row states s.joints s.contacts other
    by other None a b ne = refl
    by other (Some e) None b ne = refl
    by other (Some e) (Some a) None ne = refl
    by (constraints.Joint k) (Some e) (Some a) (Some b) ne = refl
    by (constraints.Contact l) (Some e) (Some a) (Some b) ne = ap (option_map rows.Contact) (row_put_other states key (f.contact e (ends_then a b) (ends_now a b)).contact s.contacts l ne)

row_visit_other : (f : Visits) (states : List BodyState) (s : Solving) (id other : Constraint) → AreOther id other → constraint_row states (row_visit f s id).joints (row_visit f s id).contacts other ≡ constraint_row states s.joints s.contacts other
row_visit_other f states s (constraints.Joint h) other ne = row_joint_other f states s h other ne
row_visit_other f states s (constraints.Contact key) other ne = row_contact_other f states s key other ne

other_way : (a b : Constraint) → AreOther a b → AreOther b a
other_way (constraints.Joint h) (constraints.Joint k) ne = λ e. ne (sym e)
other_way (constraints.Joint h) (constraints.Contact l) ne = tt
other_way (constraints.Contact key) (constraints.Joint k) ne = tt
other_way (constraints.Contact key) (constraints.Contact l) ne = λ e. ne (sym e)

row_pass_other : (f : Visits) (states : List BodyState) (todo : List Constraint) (s : Solving) (id : Constraint) → All (AreOther id) todo → constraint_row states (pass f todo s).joints (pass f todo s).contacts id ≡ constraint_row states s.joints s.contacts id
row_pass_other f states [] s id others = refl
row_pass_other f states (o ∷ todo) s id others =
    let first : AreOther id o = All-head (AreOther id) o todo others in
    row_pass_other f states todo (row_visit f s o) id (All-tail (AreOther id) o todo others) ∙ row_visit_other f states s o id (other_way id o first)

rows_visit_others : (f : Visits) (states : List BodyState) (todo : List Constraint) (s : Solving) (id : Constraint) → All (AreOther id) todo
    → filter_map (constraint_row states (row_visit f s id).joints (row_visit f s id).contacts) todo ≡ filter_map (constraint_row states s.joints s.contacts) todo
rows_visit_others f states [] s id others = refl
rows_visit_others f states (o ∷ todo) s id others =
    ap (λ (p : Option ConstraintRow). cons_option p (filter_map (constraint_row states (row_visit f s id).joints (row_visit f s id).contacts) todo)) (row_visit_other f states s id o (All-head (AreOther id) o todo others))
    ∙ ap (λ (l : List ConstraintRow). cons_option (constraint_row states s.joints s.contacts o) l) (rows_visit_others f states todo s id (All-tail (AreOther id) o todo others))

-- ---- what an immovable body gives

given_by : (t u : Bool) (a b : Gain) → as_vector (cond t (cond u nothing a) (cond u b nothing)) ≡ got_by t u (as_vector a) (as_vector b)
given_by true true a b = refl
given_by true false a b = refl
given_by false true a b = refl
given_by false false a b = refl

given : (e t : Ends) → as_vector (given_by_immovable e t) ≡ got e t
given e t = given_by e.a.movable e.b.movable (gain_between e.a.motion t.a.motion) (gain_between e.b.motion t.b.motion)

pub less_itself : (z : ℤ) → z -ℤ z ≡ pos 0
less_itself z = omega (arith, ints)

more_by_none : (z : ℤ) → z +ℤ pos 0 ≡ z
more_by_none z = omega (arith, ints)

nothing_gained : (m : Motion) → gain_between m m ≡ nothing
nothing_gained m = λ i. record { x = less_itself m.p.x i; y = less_itself m.p.y i }

none_given_by : (t u : Bool) (a b : Gain) → a ≡ nothing → b ≡ nothing → cond t (cond u nothing a) (cond u b nothing) ≡ nothing
none_given_by true true a b e f = refl
none_given_by true false a b e f = e
none_given_by false true a b e f = f
none_given_by false false a b e f = refl

none_given : (e : Ends) → given_by_immovable e e ≡ nothing
none_given e = none_given_by e.a.movable e.b.movable (gain_between e.a.motion e.a.motion) (gain_between e.b.motion e.b.motion) (nothing_gained e.a.motion) (nothing_gained e.b.motion)

plus_nothing : (g : Gain) → gain_sum g nothing ≡ g
plus_nothing g = λ i. record { x = more_by_none g.x i; y = more_by_none g.y i }

sums_idle : (e : Ends) (sums : StepSums) → record sums { immovable = gain_sum sums.immovable (given_by_immovable e e) } ≡ sums
sums_idle e sums = ap (λ (g : Gain). record sums { immovable = gain_sum sums.immovable g }) (none_given e) ∙ ap (λ (g : Gain). record sums { immovable = g }) (plus_nothing sums.immovable)

-- ---- one visit

-- The visit of a row is what the definition makes of its joint or its contact; a contact that doesn't touch is left
-- alone, and of a joint the impulse changes alone.
pub record IsVisitAlike (f : Visits) (j : JointRow → Ends → JointAfter) (g : ContactRow → Ends → RowAfter ContactRow) : Type 0 where
  pub alike : (key : ContactKey) (e : ContactEntry) (begun now : Ends) (r : ContactRow) → contact_row (bodies_of key e.surface) begun e.contact ≡ Some r → AreMovedFrom begun now
      → IsRowOf (bodies_of key e.surface) begun (f.contact e begun now) (g r now)
  pub idle : (e : ContactEntry) (begun now : Ends) → e.contact.first ≡ None → f.contact e begun now ≡ record { contact = e.contact; ends = now }
  pub joint : (bodies : JointBodies) (begun now : Ends) (k : Joint) → j (joint_row bodies begun k) now ≡ record { row = joint_row bodies begun (f.joint k begun now).joint; ends = (f.joint k begun now).ends }
  pub joint_moved : (begun now : Ends) (k : Joint) → AreMovedFrom begun now → AreMovedFrom begun (f.joint k begun now).ends
  pub joint_bare : IsJointVisitBare f

-- what the visit g makes of the bodies and of the row r of the constraint is what `next` has
record IsVisited (g : ConstraintRow → Ends → RowAfter ConstraintRow) (begun states : List BodyState) (old : Gain) (next : Solving) (id : Constraint) (r : ConstraintRow) : Type 0 where
  bodies : after constraint_slots g states r ≡ map held next.bodies
  row : constraint_row begun next.joints next.contacts id ≡ Some (visit_of constraint_slots g states r).row
  sum : as_vector next.sums.immovable ≡ vectors.plus (as_vector old) (got (ends_of constraint_slots states r) (visit_of constraint_slots g states r).ends)

moved_now : (a b : Moving) → AreMovedFrom (ends_then a b) (ends_now a b)
moved_now a b = record { a = record { movable = refl; mass = refl; start = refl; reciprocals = refl }; b = record { movable = refl; mass = refl; start = refl; reciprocals = refl } }

-- where the two bodies of a contact stand
abbrev contact_slots : ContactRow → Slots
contact_slots r = record { a = r.bodies.a; b = r.bodies.b }

turned_by : (f : Visits) (k : JointRow → Ends → JointAfter) (g : ContactRow → Ends → RowAfter ContactRow) (s : Solving) (key : ContactKey) (e : ContactEntry) (a b : Moving) (r : ContactRow) → IsVisitAlike f k g
    → lookup s.contacts key ≡ Some e → item_at s.bodies key.first.slot ≡ Some a → item_at s.bodies key.second.slot ≡ Some b
    → contact_row (bodies_of key e.surface) (ends_at (states_of (stood s.bodies)) key) e.contact ≡ Some r
    → IsVisited (either_visit k g) (states_of (stood s.bodies)) (map held s.bodies) s.sums.immovable (put_back key a b (f.contact e (ends_then a b) (ends_now a b)) s) (constraints.Contact key) (rows.Contact r)
turned_by f k g s key e a b r law look at_a at_b is =
    let states : List BodyState = map held s.bodies in
    let begun : List BodyState = states_of (stood s.bodies) in
    let pair : pairs.Bodies = bodies_of key e.surface in
    let t : SolvedContact = f.contact e (ends_then a b) (ends_now a b) in
    let then_is : ends_at begun key ≡ ends_then a b = (λ j. record { a = then_at s.bodies key.first.slot a at_a j; b = then_at s.bodies key.second.slot b at_b j }) in
    let made : contact_row pair (ends_then a b) e.contact ≡ Some r = sym (ap (λ (n : Ends). contact_row pair n e.contact) then_is) ∙ is in
    let same : IsRowOf pair (ends_then a b) t (g r (ends_now a b)) = law.alike key e (ends_then a b) (ends_now a b) r made (moved_now a b) in
    let named : r.bodies ≡ pair = row_bodies pair (ends_then a b) e.contact r made in
    let now_is : ends_of contact_slots states r ≡ ends_now a b =
    ap (λ (p : pairs.Bodies). record { a = slice_index_or states p.a nobody; b = slice_index_or states p.b nobody }) named ∙ (λ j. record { a = held_at s.bodies key.first.slot a at_a j; b = held_at s.bodies key.second.slot b at_b j }) in
    let visit_is : visit_of contact_slots g states r ≡ g r (ends_now a b) = ap (g r) now_is in
    let ends_are : (visit_of contact_slots g states r).ends ≡ t.ends = ap (λ (n : RowAfter ContactRow). n.ends) visit_is ∙ same.ends in
    let row : row_of begun (with_contact key t.contact s.contacts) (constraints.Contact key) ≡ Some (visit_of contact_slots g states r).row =
    row_is begun (with_contact key t.contact s.contacts) key
    ∙ ap (row_in begun key) (lookup_put_same key t.contact s.contacts ∙ ap (option_map (λ (e : ContactEntry). record e { contact = t.contact })) look)
    ∙ ap (λ (n : Ends). contact_row pair n t.contact) then_is
    ∙ same.row
    ∙ ap (λ (n : RowAfter ContactRow). Some n.row) (sym visit_is) in
    record {
      bodies =
          ap (λ (p : pairs.Bodies). slice_set (slice_set states p.a (visit_of contact_slots g states r).ends.a) p.b (visit_of contact_slots g states r).ends.b) named
          ∙ ap (λ (n : Ends). slice_set (slice_set states key.first.slot n.a) key.second.slot n.b) ends_are
          ∙ ap (λ (l : List BodyState). slice_set l key.second.slot t.ends.b) (held_put s.bodies key.first.slot t.ends.a a same.moved.a)
          ∙ held_put (slice_set s.bodies key.first.slot (Some (after_impulse t.ends.a a))) key.second.slot t.ends.b b same.moved.b;
      row = ap (option_map rows.Contact) row;
      sum = ap (vectors.plus (as_vector s.sums.immovable)) (given (ends_now a b) t.ends ∙ (λ j. got (sym now_is j) (sym ends_are j)));
    }

visited_contact : (f : Visits) (k : JointRow → Ends → JointAfter) (g : ContactRow → Ends → RowAfter ContactRow) (s : Solving) (key : ContactKey) (r : ContactRow) → IsVisitAlike f k g → HasEnds (stood s.bodies) s.joints (constraints.Contact key)
    → row_of (states_of (stood s.bodies)) s.contacts (constraints.Contact key) ≡ Some r → IsVisited (either_visit k g) (states_of (stood s.bodies)) (map held s.bodies) s.sums.immovable (row_visit f s (constraints.Contact key)) (constraints.Contact key) (rows.Contact r)
visited_contact f k g s key r law there is =
    let begun : List BodyState = states_of (stood s.bodies) in
    by (lookup s.contacts key) (item_at s.bodies key.first.slot) (item_at s.bodies key.second.slot) refl refl refl
    (ap is_some (sym (body_there s.bodies key.first.slot)) ∙ there.0) (ap is_some (sym (body_there s.bodies key.second.slot)) ∙ there.1) (sym (row_is begun s.contacts key) ∙ is)
  where
    by : (o : Option ContactEntry) (a b : Option Moving) → lookup s.contacts key ≡ o → item_at s.bodies key.first.slot ≡ a → item_at s.bodies key.second.slot ≡ b
        → is_some (body_of a) ≡ true → is_some (body_of b) ≡ true → row_in (states_of (stood s.bodies)) key o ≡ Some r → IsVisited (either_visit k g) (states_of (stood s.bodies)) (map held s.bodies) s.sums.immovable (visit_between f s key o a b) (constraints.Contact key) (rows.Contact r)
    by None a b look at_a at_b has_a has_b is = absurd (cc)
    by (Some e) None b look at_a at_b has_a has_b is = absurd (cc)
    by (Some e) (Some a) None look at_a at_b has_a has_b is = absurd (cc)
    by (Some e) (Some a) (Some b) look at_a at_b has_a has_b is = turned_by f k g s key e a b r law look at_a at_b is

-- the row of the joint in a slot, as the solver makes it
abbrev made_of : List BodyState → ℕ → BodyJoint → JointRow
made_of begun slot j = joint_row (joint_bodies slot j) (joint_ends begun j) j.joint

joined_by : (f : Visits) (k : JointRow → Ends → JointAfter) (g : ContactRow → Ends → RowAfter ContactRow) (s : Solving) (h : Handle) (j : BodyJoint) (a b : Moving) → IsVisitAlike f k g
    → joint_at s.joints h.slot ≡ Some j → item_at s.bodies j.a ≡ Some a → item_at s.bodies j.b ≡ Some b
    → IsVisited (either_visit k g) (states_of (stood s.bodies)) (map held s.bodies) s.sums.immovable (put_joint_back h.slot j a b (f.joint j.joint (ends_then a b) (ends_now a b)) s) (constraints.Joint h) (rows.Joint (made_of (states_of (stood s.bodies)) h.slot j))
unfolding joint_row
joined_by f k g s h j a b law is at_a at_b =
    let states : List BodyState = map held s.bodies in
    let begun : List BodyState = states_of (stood s.bodies) in
    let r : JointRow = made_of begun h.slot j in
    let t : SolvedJoint = f.joint j.joint (ends_then a b) (ends_now a b) in
    let then_is : joint_ends begun j ≡ ends_then a b = (λ i. record { a = then_at s.bodies j.a a at_a i; b = then_at s.bodies j.b b at_b i }) in
    let now_is : joint_ends states j ≡ ends_now a b = (λ i. record { a = held_at s.bodies j.a a at_a i; b = held_at s.bodies j.b b at_b i }) in
    let visit_is : k r (joint_ends states j) ≡ record { row = joint_row (joint_bodies h.slot j) (ends_then a b) t.joint; ends = t.ends } =
    (λ i. k (joint_row (joint_bodies h.slot j) (then_is i) j.joint) (now_is i)) ∙ law.joint (joint_bodies h.slot j) (ends_then a b) (ends_now a b) j.joint in
    let ends_are : (k r (joint_ends states j)).ends ≡ t.ends = ap (λ (n : JointAfter). n.ends) visit_is in
    let moved : AreMovedFrom (ends_then a b) t.ends = law.joint_moved (ends_then a b) (ends_now a b) j.joint (moved_now a b) in
    record {
      bodies =
          ap (λ (n : Ends). slice_set (slice_set states j.a n.a) j.b n.b) ends_are
          ∙ ap (λ (l : List BodyState). slice_set l j.b t.ends.b) (held_put s.bodies j.a t.ends.a a moved.a)
          ∙ held_put (slice_set s.bodies j.a (Some (after_impulse t.ends.a a))) j.b t.ends.b b moved.b;
      row =
          ap (λ (o : Option BodyJoint). option_map rows.Joint (joint_row_in begun h.slot o)) (joint_put_same s.joints h.slot j (record j { joint = t.joint }) is)
          ∙ ap (λ (n : Ends). Some (rows.Joint (joint_row (joint_bodies h.slot j) n t.joint))) then_is
          ∙ ap (λ (n : JointAfter). Some (rows.Joint n.row)) (sym visit_is);
      sum = ap (vectors.plus (as_vector s.sums.immovable)) (given (ends_now a b) t.ends ∙ (λ i. got (sym now_is i) (sym ends_are i)));
    }

visited_joint : (f : Visits) (k : JointRow → Ends → JointAfter) (g : ContactRow → Ends → RowAfter ContactRow) (s : Solving) (h : Handle) (j : BodyJoint) → IsVisitAlike f k g → joint_at s.joints h.slot ≡ Some j → JointHasEnds (stood s.bodies) (Some j)
    → IsVisited (either_visit k g) (states_of (stood s.bodies)) (map held s.bodies) s.sums.immovable (option_map_or (λ (j : BodyJoint). visit_joined f s h.slot j (item_at s.bodies j.a) (item_at s.bodies j.b)) (Some j) s) (constraints.Joint h) (rows.Joint (made_of (states_of (stood s.bodies)) h.slot j))
visited_joint f k g s h j law is there =
    by (item_at s.bodies j.a) (item_at s.bodies j.b) refl refl (ap is_some (sym (body_there s.bodies j.a)) ∙ there.0) (ap is_some (sym (body_there s.bodies j.b)) ∙ there.1)
  where
    by : (a b : Option Moving) → item_at s.bodies j.a ≡ a → item_at s.bodies j.b ≡ b → is_some (body_of a) ≡ true → is_some (body_of b) ≡ true
        → IsVisited (either_visit k g) (states_of (stood s.bodies)) (map held s.bodies) s.sums.immovable (visit_joined f s h.slot j a b) (constraints.Joint h) (rows.Joint (made_of (states_of (stood s.bodies)) h.slot j))
    by None b at_a at_b has_a has_b = absurd (cc has_a)
    by (Some a) None at_a at_b has_a has_b = absurd (cc has_b)
    by (Some a) (Some b) at_a at_b has_a has_b = joined_by f k g s h j a b law is at_a at_b

-- the visit of a constraint that has a row
visited : (f : Visits) (k : JointRow → Ends → JointAfter) (g : ContactRow → Ends → RowAfter ContactRow) (s : Solving) (id : Constraint) (r : ConstraintRow) → IsVisitAlike f k g → HasEnds (stood s.bodies) s.joints id
    → constraint_row (states_of (stood s.bodies)) s.joints s.contacts id ≡ Some r → IsVisited (either_visit k g) (states_of (stood s.bodies)) (map held s.bodies) s.sums.immovable (row_visit f s id) id r
visited f k g s (constraints.Joint h) r law there is = by (joint_at s.joints h.slot) refl there is
  where
    by : (o : Option BodyJoint) → joint_at s.joints h.slot ≡ o → JointHasEnds (stood s.bodies) o → option_map rows.Joint (joint_row_in (states_of (stood s.bodies)) h.slot o) ≡ Some r
        → IsVisited (either_visit k g) (states_of (stood s.bodies)) (map held s.bodies) s.sums.immovable (option_map_or (λ (j : BodyJoint). visit_joined f s h.slot j (item_at s.bodies j.a) (item_at s.bodies j.b)) o s) (constraints.Joint h) r
    by None at there is = absurd (none-some r is)
    by (Some j) at there is =
        subst (λ (q : ConstraintRow). IsVisited (either_visit k g) (states_of (stood s.bodies)) (map held s.bodies) s.sums.immovable (option_map_or (λ (j : BodyJoint). visit_joined f s h.slot j (item_at s.bodies j.a) (item_at s.bodies j.b)) (Some j) s) (constraints.Joint h) q)
        (same_Some (rows.Joint (made_of (states_of (stood s.bodies)) h.slot j)) r is) (visited_joint f k g s h j law at there)
visited f k g s (constraints.Contact key) r law there is = by (row_of (states_of (stood s.bodies)) s.contacts (constraints.Contact key)) refl is
  where
    by : (o : Option ContactRow) → row_of (states_of (stood s.bodies)) s.contacts (constraints.Contact key) ≡ o → option_map rows.Contact o ≡ Some r
        → IsVisited (either_visit k g) (states_of (stood s.bodies)) (map held s.bodies) s.sums.immovable (row_visit f s (constraints.Contact key)) (constraints.Contact key) r
    by None at is = absurd (none-some r is)
    by (Some q) at is =
        subst (λ (p : ConstraintRow). IsVisited (either_visit k g) (states_of (stood s.bodies)) (map held s.bodies) s.sums.immovable (row_visit f s (constraints.Contact key)) (constraints.Contact key) p)
        (same_Some (rows.Contact q) r is) (visited_contact f k g s key q law there at)

-- ---- a constraint that has no row

no_point : (pair : pairs.Bodies) (n : Ends) (first second : Option ContactPoint) → row_from pair n first second ≡ None → first ≡ None
no_point pair n None second is = refl
no_point pair n (Some p) second is = absurd (cc)

put_back_idle : (s : Solving) (key : ContactKey) (e : ContactEntry) (a b : Moving) → lookup s.contacts key ≡ Some e → item_at s.bodies key.first.slot ≡ Some a → item_at s.bodies key.second.slot ≡ Some b
    → put_back key a b (record { contact = e.contact; ends = ends_now a b }) s ≡ s
put_back_idle s key e a b look at_a at_b =
    let bodies : slice_set (slice_set s.bodies key.first.slot (Some a)) key.second.slot (Some b) ≡ s.bodies =
    ap (λ (l : List (Option Moving)). slice_set l key.second.slot (Some b)) (set_there s.bodies key.first.slot a at_a) ∙ set_there s.bodies key.second.slot b at_b in
    λ j. record { bodies = bodies j; joints = s.joints; contacts = put_idle key s.contacts e look j; sums = sums_idle (ends_now a b) s.sums j }

idle_contact : (f : Visits) (k : JointRow → Ends → JointAfter) (g : ContactRow → Ends → RowAfter ContactRow) (states : List BodyState) (s : Solving) (key : ContactKey) → IsVisitAlike f k g → row_of states s.contacts (constraints.Contact key) ≡ None → row_visit f s (constraints.Contact key) ≡ s
idle_contact f k g states s key law is =
    by (lookup s.contacts key) (item_at s.bodies key.first.slot) (item_at s.bodies key.second.slot) refl refl refl (sym (row_is states s.contacts key) ∙ is)
  where
    by : (o : Option ContactEntry) (a b : Option Moving) → lookup s.contacts key ≡ o → item_at s.bodies key.first.slot ≡ a → item_at s.bodies key.second.slot ≡ b → row_in states key o ≡ None → visit_between f s key o a b ≡ s
    by None a b look at_a at_b is = refl
    by (Some e) None b look at_a at_b is = refl
    by (Some e) (Some a) None look at_a at_b is = refl
    by (Some e) (Some a) (Some b) look at_a at_b is =
        ap (λ (t : SolvedContact). put_back key a b t s) (law.idle e (ends_then a b) (ends_now a b) (no_point (bodies_of key e.surface) (ends_at states key) e.contact.first e.contact.second is)) ∙ put_back_idle s key e a b look at_a at_b

idle_visit : (f : Visits) (k : JointRow → Ends → JointAfter) (g : ContactRow → Ends → RowAfter ContactRow) (states : List BodyState) (s : Solving) (id : Constraint) → IsVisitAlike f k g → constraint_row states s.joints s.contacts id ≡ None → row_visit f s id ≡ s
idle_visit f k g states s (constraints.Joint h) law is = by (joint_at s.joints h.slot) is
  where
    by : (o : Option BodyJoint) → option_map rows.Joint (joint_row_in states h.slot o) ≡ None → option_map_or (λ (j : BodyJoint). visit_joined f s h.slot j (item_at s.bodies j.a) (item_at s.bodies j.b)) o s ≡ s
    by None is = refl
    by (Some j) is = absurd (none-some (rows.Joint (joint_row (joint_bodies h.slot j) (joint_ends states j) j.joint)) (sym is))
idle_visit f k g states s (constraints.Contact key) law is = by (row_of states s.contacts (constraints.Contact key)) refl is
  where
    by : (o : Option ContactRow) → row_of states s.contacts (constraints.Contact key) ≡ o → option_map rows.Contact o ≡ None → row_visit f s (constraints.Contact key) ≡ s
    by None at is = idle_contact f k g states s key law at
    by (Some q) at is = absurd (none-some (rows.Contact q) (sym is))

-- ---- a pass

-- the visits g of the rows, from these bodies on, leave what `last` has, `old` having been given before
pub record IsPassed (g : ConstraintRow → Ends → RowAfter ConstraintRow) (begun states : List BodyState) (rs : List ConstraintRow) (old : Gain) (todo : List Constraint) (last : Solving) : Type 0 where
  pub bodies : passed constraint_slots g states rs ≡ map held last.bodies
  pub rows_left : rows_passed constraint_slots g states rs ≡ filter_map (constraint_row begun last.joints last.contacts) todo
  pub sum : vectors.plus (as_vector old) (share constraint_slots g states rs) ≡ as_vector last.sums.immovable

abbrev pub AreOnce : List Constraint → Type 0
AreOnce todo = AllPairs AreOther todo

others_of : (id : Constraint) (todo : List Constraint) → AreOnce (id ∷ todo) → All (AreOther id) todo
others_of id todo once k d lt = once 0 (suc k) d (omega arith) (omega arith)

rest_of : (id : Constraint) (todo : List Constraint) → AreOnce (id ∷ todo) → AreOnce todo
rest_of id todo once i j d lt long = once (suc i) (suc j) d (omega arith) (omega arith)

ends_stay : (f : Visits) (s : Solving) (id : Constraint) (todo : List Constraint) → IsJointVisitBare f → All (HasEnds (stood s.bodies) s.joints) todo → All (HasEnds (stood (row_visit f s id).bodies) (row_visit f s id).joints) todo
ends_stay f s id todo law there =
    all_ends_as (stood (row_visit f s id).bodies) s.joints (row_visit f s id).joints todo (sym (bare_visit f s id law)) (subst (λ (l : List (Option Body)). All (HasEnds l s.joints) todo) (sym (stood_visit f s id)) there)

-- the rows of a solving's constraints
abbrev pub rows_now : List BodyState → Solving → List Constraint → List ConstraintRow
rows_now begun s todo = filter_map (constraint_row begun s.joints s.contacts) todo

-- a pass that begins with a constraint that has no row
idle_first : (g : ConstraintRow → Ends → RowAfter ConstraintRow) (todo : List Constraint) (s last : Solving) (id : Constraint) (begun states : List BodyState) → constraint_row begun last.joints last.contacts id ≡ None
    → IsPassed g begun states (rows_now begun s todo) s.sums.immovable todo last → IsPassed g begun states (rows_now begun s todo) s.sums.immovable (id ∷ todo) last
idle_first g todo s last id begun states still h =
    record { bodies = h.bodies; rows_left = h.rows_left ∙ ap (λ (o : Option ConstraintRow). cons_option o (rows_now begun last todo)) (sym still); sum = h.sum }

sum_after : (old got next share last : Vec2) → next ≡ vectors.plus old got → vectors.plus next share ≡ last → vectors.plus old (vectors.plus got share) ≡ last
sum_after old got next share last e f = plus_assoc old got share ∙ (ap (λ (v : Vec2). vectors.plus v share) (sym e) ∙ f)

-- a pass that begins with one that has a row
visited_first : (g : ConstraintRow → Ends → RowAfter ConstraintRow) (todo : List Constraint) (rs : List ConstraintRow) (old : Gain) (next last : Solving) (id : Constraint) (begun states : List BodyState) (r : ConstraintRow)
    → IsVisited g begun states old next id r → constraint_row begun last.joints last.contacts id ≡ constraint_row begun next.joints next.contacts id
    → IsPassed g begun (after constraint_slots g states r) rs next.sums.immovable todo last → IsPassed g begun states (r ∷ rs) old (id ∷ todo) last
visited_first g todo rs old next last id begun states r now still h = record {
  bodies = h.bodies;
  rows_left = ap (λ (l : List ConstraintRow). (visit_of constraint_slots g states r).row ∷ l) h.rows_left ∙ ap (λ (o : Option ConstraintRow). cons_option o (rows_now begun last todo)) (sym (still ∙ now.row));
  sum =
      sum_after (as_vector old) (got (ends_of constraint_slots states r) (visit_of constraint_slots g states r).ends) (as_vector next.sums.immovable) (share constraint_slots g (after constraint_slots g states r) rs) (as_vector last.sums.immovable)
      now.sum h.sum;
}

pub pass_alike : (f : Visits) (k : JointRow → Ends → JointAfter) (g : ContactRow → Ends → RowAfter ContactRow) (todo : List Constraint) (s : Solving) (begun states : List BodyState) → IsVisitAlike f k g
    → AreOnce todo → All (HasEnds (stood s.bodies) s.joints) todo → begun ≡ states_of (stood s.bodies) → states ≡ map held s.bodies
    → IsPassed (either_visit k g) begun states (rows_now begun s todo) s.sums.immovable todo (pass f todo s)
pass_alike f k g [] s begun states law once there is_begun is_states = record { bodies = is_states; rows_left = refl; sum = plus_zero (as_vector s.sums.immovable) }
pass_alike f k g (id ∷ todo) s begun states law once there is_begun is_states =
    by (constraint_row begun s.joints s.contacts id) refl (λ t now ends e h. pass_alike f k g todo t begun now law (rest_of id todo once) ends e h)
  where
    by : (o : Option ConstraintRow) → constraint_row begun s.joints s.contacts id ≡ o
        → ((t : Solving) (now : List BodyState) → All (HasEnds (stood t.bodies) t.joints) todo → begun ≡ states_of (stood t.bodies) → now ≡ map held t.bodies → IsPassed (either_visit k g) begun now (rows_now begun t todo) t.sums.immovable todo (pass f todo t))
        → IsPassed (either_visit k g) begun states (cons_option o (rows_now begun s todo)) s.sums.immovable (id ∷ todo) (pass f todo (row_visit f s id))
    by None is rest =
        let same : row_visit f s id ≡ s = idle_visit f k g begun s id law is in
        let still : constraint_row begun (pass f todo s).joints (pass f todo s).contacts id ≡ None = row_pass_other f begun todo s id (others_of id todo once) ∙ is in
        subst (λ (t : Solving). IsPassed (either_visit k g) begun states (rows_now begun s todo) s.sums.immovable (id ∷ todo) (pass f todo t)) (sym same)
        (idle_first (either_visit k g) todo s (pass f todo s) id begun states still
        (rest s states (All-tail (HasEnds (stood s.bodies) s.joints) id todo there) is_begun is_states))
    by (Some r) is rest =
        let others : All (AreOther id) todo = others_of id todo once in
        let now : IsVisited (either_visit k g) begun states s.sums.immovable (row_visit f s id) id r =
        rw (is_begun, is_states) (visited f k g s id r law (All-head (HasEnds (stood s.bodies) s.joints) id todo there) (rw is_begun at is)) in
        let rows_stay : rows_now begun (row_visit f s id) todo ≡ rows_now begun s todo = rows_visit_others f begun todo s id others in
        visited_first (either_visit k g) todo (rows_now begun s todo) s.sums.immovable (row_visit f s id) (pass f todo (row_visit f s id)) id begun states r now
        (row_pass_other f begun todo (row_visit f s id) id others)
        (subst (λ (l : List ConstraintRow). IsPassed (either_visit k g) begun (after constraint_slots (either_visit k g) states r) l (row_visit f s id).sums.immovable todo (pass f todo (row_visit f s id))) rows_stay
        (rest (row_visit f s id) (after constraint_slots (either_visit k g) states r) (ends_stay f s id todo law.joint_bare (All-tail (HasEnds (stood s.bodies) s.joints) id todo there))
        (is_begun ∙ ap states_of (sym (stood_visit f s id))) now.bodies))
