-- A kept world can be gathered for the ticks of a step: of each constraint that acts a body is an awake mover.
use Rattle.std.proofs.Common.{◌≡◌, ◌⊎◌, inl, inr, ℕ, zero, suc, ◌+◌, ◌<◌, Bool, true, false, cond, is_some, List, [], ◌∷◌, ◌++◌, length, get_or, Option, Some, None, All, refl, sym, ap, ◌∙◌, subst, arith}
use Rattle.std.specs.Prelude.{◌&&◌, slice_index_or, option_and_then}
use Rattle.std.specs.List.{filter_map, flat_map, cons_option}
use Rattle.std.proofs.lemmas.List.{length-append}
use Rattle.std.proofs.lemmas.List.Elements.{All-append, All-cons, All-nil, Contains-get_or}
use Rattle.std.proofs.lemmas.Option.{none-some, same_Some}
use Rattle.std.specs.Option.{option_map_or}
use Rattle.plain_world.specs.declared.constraint.Constraint.{Constraint}
use Rattle.plain_world.specs.declared.constraint.Constraint.TheVariants as constraints
use Rattle.contacts_base.specs.Contacts.{AreKeysRising}
use Rattle.graph_colours.specs.Colours.{all_members}
use Rattle.graph_colours.specs.declared.member.Member.{Member}
use Rattle.graph_colours.specs.declared.member.Movers.{Movers}
use Rattle.islands.specs.Labels.{label_at}
use Rattle.islands.specs.declared.label.Label.{Label}
use Rattle.plain_world.specs.declared.body.Body.{Body}
use Rattle.plain_world.specs.declared.joint.BodyJoint.{BodyJoint}
use Rattle.plain_world.specs.Joints.{joint_at}
use Rattle.plain_world.specs.Sleep.{told}
use Rattle.colour_solver.specs.States.{nobody}
use Rattle.sleep_wake.specs.Acting.{Acting, are_awake, awake_label, is_mover_awake}
use Rattle.plain_world.specs.Bodies.{moves}
use Rattle.solver_sets.specs.Ties.{JointSlots, member_of, members_of, movers_if, movers_of, movers_with, is_enabled, tie_with, joint_movers}
use Rattle.world_core_base.specs.ConstraintRows.{HasJointOn, IsJointThere, IsMovable}
use Rattle.world_core_base.specs.Gather.{HasMovable, states_of}
use Rattle.world_core_base.specs.Solving.{solve_order}
use Rattle.world_core_base.specs.SolvingArrays.{CanSolve}
use Rattle.world_core_base.specs.StepRuns.{IsPresent}
use Rattle.world_core_base.proofs.GatherLaws.{movable_at}
use Rattle.world_core_base.proofs.JointLaws.{joint_on}
use Rattle.world_rules.specs.Gathering.{CanGather}
use Rattle.world_rules.specs.Sets.{acting_of}
use Rattle.world_rules.specs.World.{World, joints_in_slots}
use Rattle.world_rules.proofs.ActingLaws.{awake_name}
use Rattle.world_rules.proofs.PresentLaws.{tie_present}
use Rattle.world_rules.proofs.KeptStep.{collide_kept, collided_in, collided_world, changed_in}
use Rattle.world_rules.proofs.SolveLaws.{can_solve, coloured}
use Rattle.world_rules.proofs.SoundLaws.{IsKept}

-- ---- what holds of all elements of lists that are joined holds of each list's

get_or-front : {X : Type 0} (xs ys : List X) (k : ℕ) (d : X) → k < length xs → get_or (xs ++ ys) k d ≡ get_or xs k d
get_or-front [] ys k d h = absurd (omega (arith, h))
get_or-front (x ∷ xs) ys zero d h = refl
get_or-front (x ∷ xs) ys (suc k) d h = get_or-front xs ys k d (omega (arith, h))

get_or-behind : {X : Type 0} (xs ys : List X) (k : ℕ) (d : X) → get_or (xs ++ ys) (length xs + k) d ≡ get_or ys k d
get_or-behind [] ys k d = ap (λ (n : ℕ). get_or ys n d) (let same : 0 + k ≡ k = omega arith in same)
get_or-behind (x ∷ xs) ys k d = ap (λ (n : ℕ). get_or (x ∷ (xs ++ ys)) n d) (let same : suc (length xs) + k ≡ suc (length xs + k) = omega arith in same) ∙ get_or-behind xs ys k d

each_first : {X : Type 0} (P : X → Type 0) (xs : List X) (lists : List (List X)) → All P xs → All (All P) lists → All (All P) (xs ∷ lists)
each_first P xs lists here rest zero d lt = here
each_first P xs lists here rest (suc k) d lt = rest k d (omega (arith, lt))

pub in_each : {X : Type 0} (P : X → Type 0) (lists : List (List X)) → All P (flat_map (λ (xs : List X). xs) lists) → All (All P) lists
in_each P [] all = λ k d lt. absurd (omega (arith, lt))
in_each {X} P (xs ∷ lists) all =
    let rest : List X = flat_map (λ (ys : List X). ys) lists in
    let long : length (xs ++ rest) ≡ length xs + length rest = length-append xs rest in
    each_first P xs lists (λ k d lt. subst P (get_or-front xs rest k d lt) (all k d (omega (arith, lt, long))))
    (in_each P lists (λ k d lt. subst P (get_or-behind xs rest k d) (all (length xs + k) d (omega (arith, lt, long)))))

-- ---- the constraints that have a colour have the movers of their bodies

abbrev HasItsMovers : List (Option Body) → JointSlots → Member Constraint → Type 0
HasItsMovers bodies s m = movers_of bodies s m.id ≡ Some m.movers

before_others : (bodies : List (Option Body)) (s : JointSlots) (id : Constraint) (o : Option Movers) (ms : List (Member Constraint)) → movers_of bodies s id ≡ o → All (HasItsMovers bodies s) ms → All (HasItsMovers bodies s) (cons_option (tie_with id o) ms)
before_others bodies s id None ms e all = all
before_others bodies s id (Some v) ms e all = All-cons (HasItsMovers bodies s) (record { id = id; movers = v }) ms e all

list_has : (bodies : List (Option Body)) (s : JointSlots) (ids : List Constraint) → All (HasItsMovers bodies s) (filter_map (member_of bodies s) ids)
list_has bodies s [] = All-nil (HasItsMovers bodies s)
list_has bodies s (id ∷ ids) = before_others bodies s id (movers_of bodies s id) (filter_map (member_of bodies s) ids) refl (list_has bodies s ids)

all_have : (bodies : List (Option Body)) (s : JointSlots) (colours : List (List Constraint)) → All (HasItsMovers bodies s) (all_members (members_of bodies s colours))
unfolding members_of
all_have bodies s [] = All-nil (HasItsMovers bodies s)
all_have bodies s (ids ∷ colours) = All-append (HasItsMovers bodies s) (filter_map (member_of bodies s) ids) (all_members (members_of bodies s colours)) (list_has bodies s ids) (all_have bodies s colours)

-- ---- an awake mover is movable

first_awake : (a b : Bool) → (a && b) ≡ true → a ≡ true
first_awake true b e = refl
first_awake false b e = e

awake_some : (o : Option Label) → awake_label o ≡ true → is_some o ≡ true
awake_some None e = e
awake_some (Some l) e = refl

awake_movable : (w : World) (slot : ℕ) → IsKept w → is_mover_awake w.plain.islands slot ≡ true → (slice_index_or (states_of w.plain.bodies) slot nobody).movable ≡ true
awake_movable w slot k up =
    let moving : moves w.plain.bodies slot ≡ true = sym (k.tied slot) ∙ awake_some (label_at w.plain.islands slot) up in
    movable_at w.plain.bodies slot moving (λ b at. k.told slot b at ∙ awake_name (label_at w.plain.islands slot) up)

-- the first mover of two bodies is one of them
first_of : (both first second : Bool) (a b : ℕ) (m : Movers) → cond both (movers_if first second a b) None ≡ Some m → (m.first ≡ a) ⊎ (m.first ≡ b)
first_of true true true a b m e = inl (sym (ap (λ (v : Movers). v.first) (same_Some (record { first = a; second = Some b }) m e)))
first_of true true false a b m e = inl (sym (ap (λ (v : Movers). v.first) (same_Some (record { first = a; second = None }) m e)))
first_of true false true a b m e = inr (sym (ap (λ (v : Movers). v.first) (same_Some (record { first = b; second = None }) m e)))
first_of true false false a b m e = absurd (none-some m e)
first_of false first second a b m e = absurd (none-some m e)

one_movable : (w : World) (a b : ℕ) (m : Movers) → IsKept w → movers_with w.plain.bodies a b ≡ Some m → is_mover_awake w.plain.islands m.first ≡ true → HasMovable (states_of w.plain.bodies) a b
one_movable w a b m k e up = elim (first_of (is_enabled w.plain.bodies a && is_enabled w.plain.bodies b) (moves w.plain.bodies a) (moves w.plain.bodies b) a b m e) [
  | inl same ↦ inl (awake_movable w a k (ap (is_mover_awake w.plain.islands) (sym same) ∙ up))
  | inr same ↦ inr (awake_movable w b k (ap (is_mover_awake w.plain.islands) (sym same) ∙ up))
]

-- ---- what is gathered of a constraint that acts

record IsGathered (w : World) (id : Constraint) : Type 0 where
  joined : HasJointOn (states_of w.plain.bodies) w.plain.joints id
  movable : IsMovable (states_of w.plain.bodies) id

joint_gathered : (w : World) (slot : ℕ) (o : Option BodyJoint) (m : Movers) → IsKept w → joint_at w.plain.joints slot ≡ o → option_and_then (joint_movers w.plain.bodies) o ≡ Some m → is_mover_awake w.plain.islands m.first ≡ true → IsJointThere (states_of w.plain.bodies) o
joint_gathered w slot None m k at e up = λ j is. absurd (none-some j is)
joint_gathered w slot (Some i) m k at e up = λ j is.
    let same : i ≡ j = same_Some i j is in
    joint_on w.plain.bodies j (k.joints slot j (at ∙ is)) (one_movable w j.a j.b m k (ap (λ (x : BodyJoint). movers_with w.plain.bodies x.a x.b) (sym same) ∙ e) up)

one_gathered : (w : World) (id : Constraint) (m : Movers) → IsKept w → movers_of w.plain.bodies (joints_in_slots w.plain) id ≡ Some m → is_mover_awake w.plain.islands m.first ≡ true → IsGathered w id
one_gathered w (constraints.Joint h) m k e up = record { joined = joint_gathered w h.slot (joint_at w.plain.joints h.slot) m k refl e up; movable = tt }
one_gathered w (constraints.Contact key) m k e up = record { joined = tt; movable = one_movable w key.first.slot key.second.slot m k e up }

abbrev MemberIsGathered : World → Member Constraint → Type 0
MemberIsGathered w m = IsGathered w m.id

abbrev MemberIsPresent : World → Member Constraint → Type 0
MemberIsPresent w m = IsPresent w.plain.joints w.plain.contacts m.id

all_present : (w : World) → IsKept w → All (MemberIsPresent w) (all_members (coloured w))
unfolding acting_of
all_present w k i d lt =
    let m : Member Constraint = get_or (all_members (coloured w)) i d in
    tie_present w.plain.bodies (joints_in_slots w.plain) w.plain.contacts m k.contacts ((k.consistent.acting m).0 (Contains-get_or (all_members (coloured w)) i d lt)).0

all_gathered : (w : World) → IsKept w → All (MemberIsGathered w) (all_members (coloured w))
unfolding acting_of
all_gathered w k i d lt =
    let m : Member Constraint = get_or (all_members (coloured w)) i d in
    let up : are_awake w.plain.islands m.movers ≡ true = ((k.consistent.acting m).0 (Contains-get_or (all_members (coloured w)) i d lt)).1 in
    one_gathered w m.id m.movers k (all_have w.plain.bodies (joints_in_slots w.plain) w.plain.colours i d lt) (first_awake (is_mover_awake w.plain.islands m.movers.first) (option_map_or (is_mover_awake w.plain.islands) m.movers.second true) up)

-- a kept world can be gathered
pub can_gather : (w : World) → IsKept w → CanGather w.plain.bodies w.plain.joints w.plain.contacts (coloured w)
can_gather w k = record {
  joints_there = k.joints;
  rising = k.contacts;
  pairs = k.pairs;
  joined = in_each (λ (m : Member Constraint). HasJointOn (states_of w.plain.bodies) w.plain.joints m.id) (coloured w) (λ i d lt. (all_gathered w k i d lt).joined);
  movable = in_each (λ (m : Member Constraint). IsMovable (states_of w.plain.bodies) m.id) (coloured w) (λ i d lt. (all_gathered w k i d lt).movable);
  there = in_each (MemberIsPresent w) (coloured w) (all_present w k);
  once = subst (λ (ids : List (List Constraint)). CanSolve w.plain.bodies w.plain.joints (solve_order ids)) (sym k.moved) (can_solve w k);
}

-- and so can what the collide of a step leaves
pub can_gather_collided : (w : World) → IsKept w → AreKeysRising (collided_in w).now → CanGather (told (changed_in w).labels w.plain.bodies) w.plain.joints (collided_in w).now (changed_in w).lists
unfolding acting_of
can_gather_collided w k rises =
    let is = collide_kept w k rises in
    subst (λ (s : Acting Constraint). CanGather (told (changed_in w).labels w.plain.bodies) w.plain.joints (collided_in w).now s.lists) is.acting (can_gather (collided_world w) is.kept)
