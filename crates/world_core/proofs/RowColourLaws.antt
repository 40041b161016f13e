-- A constraint with its movers, as the solver sees its bodies.
use Rattle.std.proofs.Common.{◌≡◌, ℕ, zero, suc, ◌+◌, ◌==◌, ◌||◌, Bool, true, false, cond, List, [], ◌∷◌, length, get_or, Option, Some, None, All, arith, refl, subst}
use Rattle.std.proofs.lemmas.Bool.Decides.{nat_tests}
use Rattle.std.proofs.lemmas.List.Elements.{All-cons, All-nil, Contains-get_or}
use Rattle.std.specs.List.{filter_map, cons_option}
use Rattle.std.specs.Prelude.{option_and_then}
use Rattle.graph_colours.specs.Colours.{all_members}
use Rattle.graph_colours.specs.declared.limits.TheConstants.{COLOURS}
use Rattle.graph_colours.specs.declared.member.Movers.{Movers}
use Rattle.graph_colours.specs.declared.member.Member.{Member}
use Rattle.graph_colours.specs.Movers.{has_mover}
use Rattle.plain_world.specs.declared.constraint.Constraint.{Constraint}
use Rattle.plain_world.specs.declared.constraint.Constraint.TheVariants.{Joint, Contact}
use Rattle.plain_world.specs.declared.body.Body.{Body}
use Rattle.plain_world.specs.declared.joint.BodyJoint.{BodyJoint}
use Rattle.plain_world.specs.Bodies as bodies_of
use Rattle.plain_world.specs.Joints.{joint_at}
use Rattle.plain_world.specs.Plain.{Plain}
use Rattle.colour_solver.specs.Colour.{is_mover}
use Rattle.plain_world.specs.Bodies.{moves}
use Rattle.solver_sets.specs.Ties.{JointSlots, member_of, members_of, movers_if, movers_of, movers_with, tie_with, joint_movers}
use Rattle.solver_sets.proofs.TieLaws as ties
use Rattle.world_core_base.specs.Gather.{states_of}
use Rattle.world_core_base.specs.RowColours.{HasBoth, HasItsMovers, HasMovers, JointHasMovers}
use Rattle.world_core_base.proofs.RowColourLaws.{colour_rows_apart}
use Rattle.world_core.specs.RowColours.{ColouredRowsAreColours}
use Rattle.world_rules.proofs.GatherLaws.{in_each}
use Rattle.world_rules.specs.Sets.{acting_of}
use Rattle.world_rules.specs.World.{joints_in_slots}

-- what is awake is a mover
awake_moves : (t u : Bool) → cond t u false ≡ true → t ≡ true
awake_moves true u e = refl
awake_moves false u e = e

moves_back : (bodies : List (Option Body)) (slot : ℕ) → is_mover (states_of bodies) slot ≡ true → moves bodies slot ≡ true
moves_back [] slot e = e
moves_back (None ∷ os) zero e = e
moves_back (Some b ∷ os) zero e = awake_moves (bodies_of.is_mover b) _ e
moves_back (o ∷ os) (suc slot) e = moves_back os slot e

same_slot : (a : ℕ) → (a == a) ≡ true
same_slot a = grind (arith, nat_tests)

or_true : (t u : Bool) → u ≡ true → (t || u) ≡ true
or_true true u h = refl
or_true false u h = h

true_or : (t u : Bool) → t ≡ true → (t || u) ≡ true
true_or true u h = refl
true_or false u h = absurd (cc h)

-- the movers among two bodies
among : (first second : Bool) (a b : ℕ) (m : Movers) → movers_if first second a b ≡ Some m → (first ≡ true → has_mover m a ≡ true) × (second ≡ true → has_mover m b ≡ true)
among true true a b m e =
    let is : record { first = a; second = Some b } ≡ m = cc e in
    (λ h. subst (λ (o : Movers). has_mover o a ≡ true) is (true_or (a == a) (b == a) (same_slot a)), λ h. subst (λ (o : Movers). has_mover o b ≡ true) is (or_true (a == b) (b == b) (same_slot b)))
among true false a b m e =
    let is : record { first = a; second = None } ≡ m = cc e in
    (λ h. subst (λ (o : Movers). has_mover o a ≡ true) is (true_or (a == a) false (same_slot a)), λ h. absurd (cc h))
among false true a b m e =
    let is : record { first = b; second = None } ≡ m = cc e in
    (λ h. absurd (cc h), λ h. subst (λ (o : Movers). has_mover o b ≡ true) is (true_or (b == b) false (same_slot b)))
among false false a b m e = absurd (cc e)

both_among : (bodies : List (Option Body)) (a b : ℕ) (m : Movers) → movers_with bodies a b ≡ Some m → HasBoth (states_of bodies) m a b
both_among bodies a b m e =
    let both = among (moves bodies a) (moves bodies b) a b m (ties.has_movers bodies a b m e).movers in
    record { first = λ h. both.0 (moves_back bodies a h); second = λ h. both.1 (moves_back bodies b h) }

has_movers : (bodies : List (Option Body)) (s : JointSlots) (m : Movers) (id : Constraint) → movers_of bodies s id ≡ Some m → HasMovers (states_of bodies) s.joints m id
has_movers bodies s m (Contact key) e = both_among bodies key.first.slot key.second.slot m e
has_movers bodies s m (Joint h) e = by (joint_at s.joints h.slot) e
  where
    by : (o : Option BodyJoint) → option_and_then (joint_movers bodies) o ≡ Some m → JointHasMovers (states_of bodies) m o
    by None e = tt
    by (Some j) e = both_among bodies j.a j.b m e

-- ---- the constraints of a world

before_others : (bodies : List (Option Body)) (s : JointSlots) (id : Constraint) (o : Option Movers) (ms : List (Member Constraint)) → movers_of bodies s id ≡ o → All (HasItsMovers (states_of bodies) s.joints) ms
    → All (HasItsMovers (states_of bodies) s.joints) (cons_option (tie_with id o) ms)
before_others bodies s id None ms e all = all
before_others bodies s id (Some m) ms e all = All-cons (HasItsMovers (states_of bodies) s.joints) (record { id = id; movers = m }) ms (has_movers bodies s m id e) all

members_have : (bodies : List (Option Body)) (s : JointSlots) (ids : List Constraint) → All (HasItsMovers (states_of bodies) s.joints) (filter_map (member_of bodies s) ids)
members_have bodies s [] = All-nil (HasItsMovers (states_of bodies) s.joints)
members_have bodies s (id ∷ ids) = before_others bodies s id (movers_of bodies s id) (filter_map (member_of bodies s) ids) refl (members_have bodies s ids)

lists_have : (bodies : List (Option Body)) (s : JointSlots) (colours : List (List Constraint)) → All (All (HasItsMovers (states_of bodies) s.joints)) (members_of bodies s colours)
unfolding members_of
lists_have bodies s [] = All-nil (All (HasItsMovers (states_of bodies) s.joints))
lists_have bodies s (ids ∷ colours) = All-cons (All (HasItsMovers (states_of bodies) s.joints)) (filter_map (member_of bodies s) ids) (members_of bodies s colours) (members_have bodies s ids) (lists_have bodies s colours)

-- each constraint that acts stands in its colour with the movers of its bodies
pub acting_have_movers : (w : Plain) → All (All (HasItsMovers (states_of w.bodies) w.joints)) (acting_of w).lists
unfolding acting_of
acting_have_movers w = lists_have w.bodies (joints_in_slots w) w.colours

pub coloured_rows : ColouredRowsAreColours
coloured_rows bodies s contacts lists colour coloured lt =
    let of_all : All (HasItsMovers (states_of bodies) s.joints) (all_members lists) =
    λ k d inside. let m : Member Constraint = get_or (all_members lists) k d in has_movers bodies s m.movers m.id (coloured.movers m (Contains-get_or (all_members lists) k d inside)) in
    let count : length lists ≡ COLOURS + 1 = coloured.colouring.count in
    colour_rows_apart (states_of bodies) s.joints contacts lists colour (in_each (HasItsMovers (states_of bodies) s.joints) lists of_all) coloured.colouring.apart (omega (arith, count)) lt
