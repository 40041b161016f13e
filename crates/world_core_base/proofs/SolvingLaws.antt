-- What a step's passes leave of contacts and bodies, and that the arrays leave the same.
use Rattle.std.proofs.Common.{◌≡◌, ℕ, zero, suc, ◌==◌, Bool, true, false, cond, List, [], ◌∷◌, map, Option, Some, None, All, refl, sym, ap, ◌∙◌, subst}
use Rattle.std.specs.Prelude.{option_map}
use Rattle.std.specs.List.{slice_get, cons_option, filter_map}
use Rattle.std.proofs.lemmas.List.Elements.{All-head, All-tail, All-weaker}
use Rattle.std.specs.List.Sorted.{IsStrictlyIncreasing}
use Rattle.std.proofs.lemmas.Option.{none-some, same_Some, slice_get-map}
use Rattle.std.specs.Option.{option_map_or}
use Rattle.fixed_geom.specs.declared.vectors.Vec2.{Vec2}
use Rattle.momenta.specs.Motions.{speed_clamped}
use Rattle.momenta.specs.declared.state.BodyState.{BodyState}
use Rattle.momenta.specs.declared.state.Ends.{Ends}
use Rattle.body_handles.specs.declared.handle.Handle.{Handle}
use Rattle.joint_rows.specs.declared.row.JointRow.{JointRow}
use Rattle.contacts_base.specs.Keys.{key_number}
use Rattle.contacts_base.specs.Contacts.{AreKeysRising, lookup, number_of}
use Rattle.contacts_base.specs.declared.contact.Contact.{Contact}
use Rattle.contacts_base.specs.declared.contact.ContactEntry.{ContactEntry}
use Rattle.contacts_base.specs.declared.contact.ContactPoint.{ContactPoint}
use Rattle.contacts_base.specs.declared.key.ContactKey.{ContactKey}
use Rattle.plain_world.specs.declared.constraint.Constraint.{Constraint}
use Rattle.plain_world.specs.declared.constraint.Constraint.TheVariants as constraints
use Rattle.graph_colours.specs.Colours.{ids_of}
use Rattle.colour_solver_base.specs.declared.row.ContactRow.{ContactRow}
use Rattle.colour_solver_base.specs.ContactSolving.{SolvedPoint, at_points, bounces, contact_bounced, contact_solved, contact_warmed, point_bounced, point_solved, point_warmed}
use Rattle.colour_solver.specs.Ticks.{Run}
use Rattle.colour_solver.specs.declared.constraint_row.ConstraintRow.TheVariants as rows
use Rattle.plain_world.specs.declared.body.Body.{Body}
use Rattle.plain_world.specs.declared.joint.BodyJoint.{BodyJoint}
use Rattle.plain_world.specs.Joints.{joint_at}
use Rattle.plain_world.specs.Slots.{item_at}
use Rattle.colour_solver.specs.ConstraintVisits.{contacts_among, joints_among}
use Rattle.world_core_base.specs.ConstraintRows.{constraint_row, joint_row_in, joint_row_of, with_joint_rows}
use Rattle.world_core_base.specs.Gather.{row_of, states_of, with_motions, with_rows}
use Rattle.world_core_base.specs.Solving.{Moving, Solving, Visits, begin, bounce, clamp, ends_now, ends_then, left, pass, pull, solve, solve_order, solved, tick, ticks, row_visit, visit_between, visit_joined, warm, with_contact}
use Rattle.world_core_base.specs.SolvingArrays.{ArraysAreSolving, IsRunOf}
use Rattle.world_core_base.proofs.SolvingBack.{IsOther, IsSameBeside, bare, bare_contact, bare_point, rows_back}
use Rattle.world_core_base.proofs.SolvingContacts.{put_else}
use Rattle.world_core_base.proofs.SolvingRuns.{ran_alike, run_in, solved_stood}
use Rattle.world_core_base.proofs.SolvingJoints.{AreImpulsed, IsAway, joints_back, joints_more, joints_then, none_impulsed, put_impulsed}
use Rattle.world_core_base.proofs.SolvingVisits.{IsJointVisitBare, held, stood}

-- ---- a visit changes impulses alone

abbrev IsBarely : (ContactPoint → Ends → SolvedPoint) → Type 0
IsBarely f = (p : ContactPoint) (n : Ends) → bare_point (f p n).point ≡ bare_point p

points_barely : (f : ContactPoint → Ends → SolvedPoint) → IsBarely f → (first second : Option ContactPoint) (n : Ends) → bare_contact (at_points f (record { first = first; second = second }) n).contact ≡ bare_contact (record { first = first; second = second })
points_barely f h None second n = refl
points_barely f h (Some p) None n = λ j. record { first = Some (h p n j); second = None }
points_barely f h (Some p) (Some q) n = λ j. record { first = Some (h p n j); second = Some (h q (f p n).ends j) }

abbrev IsVisitBare : Visits → Type 0
IsVisitBare f = (e : ContactEntry) (begun now : Ends) → bare_contact (f.contact e begun now).contact ≡ bare_contact e.contact

warm_bare : IsVisitBare warm
unfolding contact_warmed
warm_bare e begun now = points_barely (λ p n. record { point = p; ends = point_warmed p n }) (λ p n. refl) e.contact.first e.contact.second now

solve_bare : IsVisitBare solve
unfolding contact_solved
solve_bare e begun now = points_barely (point_solved e.surface.friction) (λ p n. refl) e.contact.first e.contact.second now

bounced_by : (t : Bool) (p : ContactPoint) (a b : SolvedPoint) → bare_point a.point ≡ bare_point p → bare_point b.point ≡ bare_point p → bare_point (cond t a b).point ≡ bare_point p
bounced_by true p a b e f = e
bounced_by false p a b e f = f

bounce_bare : IsVisitBare bounce
unfolding contact_bounced
bounce_bare e begun now = points_barely (point_bounced e.surface.restitution begun) (λ p n. bounced_by (bounces e.surface.restitution begun p) p _ (record { point = p; ends = n }) refl refl) e.contact.first e.contact.second now

-- ---- a contact that is put back

bare_put_by : (t : Bool) (key : ContactKey) (c : Contact) (e f : ContactEntry) (es : List ContactEntry) → cond t (Some e) (lookup es key) ≡ Some f → bare_contact c ≡ bare_contact f.contact → (lookup es key ≡ Some f → map bare (with_contact key c es) ≡ map bare es)
    → map bare (cond t (record e { contact = c } ∷ es) (e ∷ with_contact key c es)) ≡ map bare (e ∷ es)
bare_put_by true key c e f es is same rest = ap (λ (d : Contact). record e { contact = d } ∷ map bare es) (same ∙ ap (λ (g : ContactEntry). bare_contact g.contact) (sym (same_Some e f is)))
bare_put_by false key c e f es is same rest = ap (λ (l : List ContactEntry). bare e ∷ l) (rest is)

bare_put : (key : ContactKey) (c : Contact) (f : ContactEntry) (es : List ContactEntry) → lookup es key ≡ Some f → bare_contact c ≡ bare_contact f.contact → map bare (with_contact key c es) ≡ map bare es
bare_put key c f [] is same = refl
bare_put key c f (e ∷ es) is same = bare_put_by (number_of e == key_number key) key c e f es is same (λ h. bare_put key c f es h same)

-- ---- contacts that have other impulses, of these constraints alone

record IsImpulsed (order : List Constraint) (es fs : List ContactEntry) : Type 0 where
  barely : map bare fs ≡ map bare es
  others : (j : ℕ) (e : ContactEntry) → slice_get es j ≡ Some e → All (IsOther e) order → slice_get fs j ≡ Some e

unimpulsed : (order : List Constraint) (es : List ContactEntry) → IsImpulsed order es es
unimpulsed order es = record { barely = refl; others = λ j e at all. at }

impulsed_then : (order : List Constraint) (es fs gs : List ContactEntry) → IsImpulsed order es fs → IsImpulsed order fs gs → IsImpulsed order es gs
impulsed_then order es fs gs h k = record { barely = k.barely ∙ h.barely; others = λ j e at all. k.others j e (h.others j e at all) all }

-- of one constraint more
impulsed_more : (id : Constraint) (order : List Constraint) (es fs : List ContactEntry) → IsImpulsed order es fs → IsImpulsed (id ∷ order) es fs
impulsed_more id order es fs h = record { barely = h.barely; others = λ j e at all. h.others j e at (All-tail (IsOther e) id order all) }

-- what a visit leaves of the contacts, of these constraints and one more
visit_impulsed : (f : Visits) (s : Solving) (id : Constraint) (order : List Constraint) → IsVisitBare f → IsImpulsed (id ∷ order) s.contacts (row_visit f s id).contacts
visit_impulsed f s (constraints.Joint h) order law = by (joint_at s.joints h.slot)
  where
    between : (j : BodyJoint) (a b : Option Moving) → IsImpulsed (constraints.Joint h ∷ order) s.contacts (visit_joined f s h.slot j a b).contacts
    between j None b = unimpulsed (constraints.Joint h ∷ order) s.contacts
    between j (Some a) None = unimpulsed (constraints.Joint h ∷ order) s.contacts
    between j (Some a) (Some b) = unimpulsed (constraints.Joint h ∷ order) s.contacts

    by : (o : Option BodyJoint) → IsImpulsed (constraints.Joint h ∷ order) s.contacts (option_map_or (λ (j : BodyJoint). visit_joined f s h.slot j (item_at s.bodies j.a) (item_at s.bodies j.b)) o s).contacts
    by None = unimpulsed (constraints.Joint h ∷ order) s.contacts
    by (Some j) = between j (item_at s.bodies j.a) (item_at s.bodies j.b)
visit_impulsed f s (constraints.Contact key) order law = by (lookup s.contacts key) (item_at s.bodies key.first.slot) (item_at s.bodies key.second.slot) refl
  where
    by : (o : Option ContactEntry) (a b : Option Moving) → lookup s.contacts key ≡ o → IsImpulsed (constraints.Contact key ∷ order) s.contacts (visit_between f s key o a b).contacts
    by None a b is = unimpulsed (constraints.Contact key ∷ order) s.contacts
    by (Some e) None b is = unimpulsed (constraints.Contact key ∷ order) s.contacts
    by (Some e) (Some a) None is = unimpulsed (constraints.Contact key ∷ order) s.contacts
    by (Some e) (Some a) (Some b) is =
        let c : Contact = (f.contact e (ends_then a b) (ends_now a b)).contact in
        record {
          barely = bare_put key c e s.contacts is (law e (ends_then a b) (ends_now a b));
          others = λ j d at all. put_else j key c d s.contacts (All-head (IsOther d) (constraints.Contact key) order all) at;
        }

pass_impulsed : (f : Visits) (order : List Constraint) (s : Solving) → IsVisitBare f → IsImpulsed order s.contacts (pass f order s).contacts
pass_impulsed f [] s law = unimpulsed [] s.contacts
pass_impulsed f (id ∷ order) s law =
    impulsed_then (id ∷ order) s.contacts (row_visit f s id).contacts (pass f order (row_visit f s id)).contacts (visit_impulsed f s id order law) (impulsed_more id order (row_visit f s id).contacts (pass f order (row_visit f s id)).contacts (pass_impulsed f order (row_visit f s id) law))

tick_impulsed : (g : Vec2) (order : List Constraint) (s : Solving) → IsImpulsed order s.contacts (tick g order s).contacts
tick_impulsed g order s =
    let before : Solving = clamp speed_clamped (pull g s) in
    impulsed_then order s.contacts (pass warm order before).contacts (pass solve order (pass warm order before)).contacts (pass_impulsed warm order before warm_bare) (pass_impulsed solve order (pass warm order before) solve_bare)

ticks_impulsed : (n : ℕ) (g : Vec2) (order : List Constraint) (s : Solving) → IsImpulsed order s.contacts (ticks n g order s).contacts
ticks_impulsed zero g order s = unimpulsed order s.contacts
ticks_impulsed (suc n) g order s = impulsed_then order s.contacts (ticks n g order s).contacts (tick g order (ticks n g order s)).contacts (ticks_impulsed n g order s) (tick_impulsed g order (ticks n g order s))

solved_impulsed : (n : ℕ) (g : Vec2) (order : List Constraint) (bodies : List (Option Body)) (joints : List (Option BodyJoint)) (contacts : List ContactEntry) → IsImpulsed order contacts (solved n g order bodies joints contacts).contacts
unfolding solved
solved_impulsed n g order bodies joints contacts =
    let before : Solving = ticks n g order (begin bodies joints contacts) in
    impulsed_then order contacts before.contacts (pass bounce order before).contacts (ticks_impulsed n g order (begin bodies joints contacts)) (pass_impulsed bounce order before bounce_bare)

-- ---- joints that have other impulses, of these constraints alone

-- what a visit leaves of the joints, of these constraints and one more
visit_joints : (f : Visits) (s : Solving) (id : Constraint) (order : List Constraint) → IsJointVisitBare f → AreImpulsed (id ∷ order) s.joints (row_visit f s id).joints
visit_joints f s (constraints.Contact key) order law = by (lookup s.contacts key) (item_at s.bodies key.first.slot) (item_at s.bodies key.second.slot)
  where
    by : (o : Option ContactEntry) (a b : Option Moving) → AreImpulsed (constraints.Contact key ∷ order) s.joints (visit_between f s key o a b).joints
    by None a b = none_impulsed (constraints.Contact key ∷ order) s.joints
    by (Some e) None b = none_impulsed (constraints.Contact key ∷ order) s.joints
    by (Some e) (Some a) None = none_impulsed (constraints.Contact key ∷ order) s.joints
    by (Some e) (Some a) (Some b) = none_impulsed (constraints.Contact key ∷ order) s.joints
visit_joints f s (constraints.Joint h) order law = by (joint_at s.joints h.slot) refl
  where
    between : (j : BodyJoint) (a b : Option Moving) → joint_at s.joints h.slot ≡ Some j → AreImpulsed (constraints.Joint h ∷ order) s.joints (visit_joined f s h.slot j a b).joints
    between j None b is = none_impulsed (constraints.Joint h ∷ order) s.joints
    between j (Some a) None is = none_impulsed (constraints.Joint h ∷ order) s.joints
    between j (Some a) (Some b) is =
        put_impulsed (constraints.Joint h ∷ order) s.joints h.slot j (record j { joint = (f.joint j.joint (ends_then a b) (ends_now a b)).joint }) is (law j (ends_then a b) (ends_now a b)) (λ other all. All-head (IsAway other) (constraints.Joint h) order all)

    by : (o : Option BodyJoint) → joint_at s.joints h.slot ≡ o → AreImpulsed (constraints.Joint h ∷ order) s.joints (option_map_or (λ (j : BodyJoint). visit_joined f s h.slot j (item_at s.bodies j.a) (item_at s.bodies j.b)) o s).joints
    by None is = none_impulsed (constraints.Joint h ∷ order) s.joints
    by (Some j) is = between j (item_at s.bodies j.a) (item_at s.bodies j.b) is

pass_joints : (f : Visits) (order : List Constraint) (s : Solving) → IsJointVisitBare f → AreImpulsed order s.joints (pass f order s).joints
pass_joints f [] s law = none_impulsed [] s.joints
pass_joints f (id ∷ order) s law =
    joints_then (id ∷ order) s.joints (row_visit f s id).joints (pass f order (row_visit f s id)).joints (visit_joints f s id order law) (joints_more id order (row_visit f s id).joints (pass f order (row_visit f s id)).joints (pass_joints f order (row_visit f s id) law))

tick_joints : (g : Vec2) (order : List Constraint) (s : Solving) → AreImpulsed order s.joints (tick g order s).joints
tick_joints g order s =
    let before : Solving = clamp speed_clamped (pull g s) in
    joints_then order s.joints (pass warm order before).joints (pass solve order (pass warm order before)).joints (pass_joints warm order before (λ j begun now. refl)) (pass_joints solve order (pass warm order before) (λ j begun now. refl))

ticks_joints : (n : ℕ) (g : Vec2) (order : List Constraint) (s : Solving) → AreImpulsed order s.joints (ticks n g order s).joints
ticks_joints zero g order s = none_impulsed order s.joints
ticks_joints (suc n) g order s = joints_then order s.joints (ticks n g order s).joints (tick g order (ticks n g order s)).joints (ticks_joints n g order s) (tick_joints g order (ticks n g order s))

pub solved_joints : (n : ℕ) (g : Vec2) (order : List Constraint) (bodies : List (Option Body)) (joints : List (Option BodyJoint)) (contacts : List ContactEntry) → AreImpulsed order joints (solved n g order bodies joints contacts).joints
unfolding solved
solved_joints n g order bodies joints contacts =
    let before : Solving = ticks n g order (begin bodies joints contacts) in
    joints_then order joints before.joints (pass bounce order before).joints (ticks_joints n g order (begin bodies joints contacts)) (pass_joints bounce order before (λ j begun now. refl))

-- ---- the rows of joints and those of contacts

joints_split : (states : List BodyState) (joints : List (Option BodyJoint)) (contacts : List ContactEntry) (order : List Constraint) → joints_among (filter_map (constraint_row states joints contacts) order) ≡ filter_map (joint_row_of states joints) order
joints_split states joints contacts [] = refl
joints_split states joints contacts (constraints.Joint h ∷ order) = by (joint_row_in states h.slot (joint_at joints h.slot)) (joints_split states joints contacts order)
  where
    by : (o : Option JointRow) → joints_among (filter_map (constraint_row states joints contacts) order) ≡ filter_map (joint_row_of states joints) order
        → joints_among (cons_option (option_map rows.Joint o) (filter_map (constraint_row states joints contacts) order)) ≡ cons_option o (filter_map (joint_row_of states joints) order)
    by None rest = rest
    by (Some r) rest = ap (λ (l : List JointRow). r ∷ l) rest
joints_split states joints contacts (constraints.Contact key ∷ order) = by (row_of states contacts (constraints.Contact key)) (joints_split states joints contacts order)
  where
    by : (o : Option ContactRow) → joints_among (filter_map (constraint_row states joints contacts) order) ≡ filter_map (joint_row_of states joints) order
        → joints_among (cons_option (option_map rows.Contact o) (filter_map (constraint_row states joints contacts) order)) ≡ filter_map (joint_row_of states joints) order
    by None rest = rest
    by (Some r) rest = rest

no_contact_row : (states : List BodyState) (contacts : List ContactEntry) (h : Handle) → row_of states contacts (constraints.Joint h) ≡ None
unfolding row_of
no_contact_row states contacts h = refl

contacts_split : (states : List BodyState) (joints : List (Option BodyJoint)) (contacts : List ContactEntry) (order : List Constraint) → contacts_among (filter_map (constraint_row states joints contacts) order) ≡ filter_map (row_of states contacts) order
contacts_split states joints contacts [] = refl
contacts_split states joints contacts (constraints.Joint h ∷ order) =
    by (joint_row_in states h.slot (joint_at joints h.slot)) (contacts_split states joints contacts order)
    ∙ ap (λ (o : Option ContactRow). cons_option o (filter_map (row_of states contacts) order)) (sym (no_contact_row states contacts h))
  where
    by : (o : Option JointRow) → contacts_among (filter_map (constraint_row states joints contacts) order) ≡ filter_map (row_of states contacts) order
        → contacts_among (cons_option (option_map rows.Joint o) (filter_map (constraint_row states joints contacts) order)) ≡ filter_map (row_of states contacts) order
    by None rest = rest
    by (Some r) rest = rest
contacts_split states joints contacts (constraints.Contact key ∷ order) = by (row_of states contacts (constraints.Contact key)) (contacts_split states joints contacts order)
  where
    by : (o : Option ContactRow) → contacts_among (filter_map (constraint_row states joints contacts) order) ≡ filter_map (row_of states contacts) order
        → contacts_among (cons_option (option_map rows.Contact o) (filter_map (constraint_row states joints contacts) order)) ≡ cons_option o (filter_map (row_of states contacts) order)
    by None rest = rest
    by (Some r) rest = ap (λ (l : List ContactRow). r ∷ l) rest

-- ---- what is written back

-- a constraint that isn't the one contact isn't the other, which has its key
other_as : (e f : ContactEntry) → number_of f ≡ number_of e → (id : Constraint) → IsOther f id → IsOther e id
other_as e f numbers (constraints.Joint h) ne = tt
other_as e f numbers (constraints.Contact key) ne = λ is. ne (numbers ∙ is)

numbers_bare : (es : List ContactEntry) → map number_of (map bare es) ≡ map number_of es
numbers_bare [] = refl
numbers_bare (e ∷ es) = ap (λ (l : List ℕ). number_of e ∷ l) (numbers_bare es)

-- the keys of contacts that have other impulses ascend as they did
rising_bare : (es fs : List ContactEntry) → map bare fs ≡ map bare es → AreKeysRising es → AreKeysRising fs
rising_bare es fs barely rising = subst IsStrictlyIncreasing (sym (sym (numbers_bare fs) ∙ ap (map number_of) barely ∙ numbers_bare es)) rising

-- and so do others stay that had none
others_back : (order : List Constraint) (es fs : List ContactEntry) → IsImpulsed order es fs → IsSameBeside es order fs
others_back order es fs h j f at all = by (slice_get es j) refl (sym (slice_get-map bare es j) ∙ ap (λ (l : List ContactEntry). slice_get l j) (sym h.barely) ∙ slice_get-map bare fs j ∙ ap (option_map bare) at)
  where
    by : (o : Option ContactEntry) → slice_get es j ≡ o → option_map bare o ≡ Some (bare f) → slice_get es j ≡ Some f
    by None at_e same = absurd (none-some (bare f) same)
    by (Some e) at_e same =
        let barely : bare e ≡ bare f = same_Some (bare e) (bare f) same in
        let numbers : number_of f ≡ number_of e = ap number_of (sym barely) in
        let stays : slice_get fs j ≡ Some e = h.others j e at_e (All-weaker (IsOther f) (IsOther e) (other_as e f numbers) order all) in
        at_e ∙ sym stays ∙ at

motions_back : (ms : List (Option Moving)) → with_motions (stood ms) (map held ms) ≡ map (option_map left) ms
motions_back [] = refl
motions_back (None ∷ ms) = ap (λ (l : List (Option Body)). None ∷ l) (motions_back ms)
motions_back (Some m ∷ ms) = ap (λ (l : List (Option Body)). Some (left m) ∷ l) (motions_back ms)

run_back : (bodies : List (Option Body)) (joints : List (Option BodyJoint)) (contacts : List ContactEntry) (order : List Constraint) (s : Solving) → AreKeysRising contacts → stood s.bodies ≡ bodies → AreImpulsed order joints s.joints → IsImpulsed order contacts s.contacts → IsRunOf bodies joints contacts (run_in bodies order s) s
run_back bodies joints contacts order s rising e k h = record {
  bodies_left = ap (λ (l : List (Option Body)). with_motions l (map held s.bodies)) (sym e) ∙ motions_back s.bodies;
  joints_left = ap (with_joint_rows joints) (joints_split (states_of bodies) s.joints s.contacts order) ∙ joints_back (states_of bodies) order joints s.joints (sym k.barely) (λ slot all. sym (k.others slot all));
  contacts_left = ap (with_rows contacts) (contacts_split (states_of bodies) s.joints s.contacts order) ∙ rows_back (states_of bodies) order contacts s.contacts (rising_bare contacts s.contacts h.barely rising) (sym h.barely) (others_back order contacts s.contacts h);
  sums = refl;
}

pub arrays_are_solving : ArraysAreSolving
arrays_are_solving n g bodies joints contacts lists rising can =
    let order : List Constraint = solve_order (ids_of lists) in
    let s : Solving = solved n g order bodies joints contacts in
    subst (λ (r : Run). IsRunOf bodies joints contacts r s) (sym (ran_alike n g bodies joints contacts lists can))
    (run_back bodies joints contacts order s rising (solved_stood n g bodies joints contacts order can) (solved_joints n g order bodies joints contacts) (solved_impulsed n g order bodies joints contacts))
