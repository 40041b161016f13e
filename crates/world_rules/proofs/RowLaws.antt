-- The impulses that the ticks give back: the ends of the joints, the keys of the contacts and which of them touch are
-- as they were.
use Rattle.std.proofs.Common.{◌≡◌, ℕ, zero, suc, ◌≤◌, ◌^◌, Bool, true, false, cond, List, [], ◌∷◌, map, Option, Some, None, All, ℤ, refl, sym, ap, ◌∙◌, subst}
use Rattle.std.specs.Prelude.{◌==◌, filter, option_map, slice_set}
use Rattle.std.specs.Option.{ForSome}
use Rattle.std.specs.List.Sorted.{IsStrictlyIncreasing}
use Rattle.fixed_geom.specs.Vectors.{plus}
use Rattle.contacts_base.specs.declared.contact.ContactEntry.{ContactEntry}
use Rattle.contacts_base.specs.declared.contact.ContactPoint.{ContactPoint}
use Rattle.contacts_base.specs.declared.evaluation.Impulses.{Impulses}
use Rattle.contacts_base.specs.declared.key.ContactKey.{ContactKey}
use Rattle.contacts_base.specs.Contacts.{AreKeysRising}
use Rattle.contacts_base.specs.ContactLists.{with_impulses, with_second}
use Rattle.contacts_base.specs.Evaluate.{touches}
use Rattle.colour_solver.specs.declared.constraint_row.ConstraintRow.{ConstraintRow}
use Rattle.colour_solver.specs.declared.ticks.StepSums.{StepSums}
use Rattle.colour_solver.specs.ConstraintVisits.{contacts_among, joints_among}
use Rattle.colour_solver.specs.Ticks.{AreSums, added}
use Rattle.colour_solver_base.specs.declared.row.ContactRow.{ContactRow}
use Rattle.joint_rows.specs.declared.row.JointRow.{JointRow}
use Rattle.momenta.specs.declared.state.BodyState.{BodyState}
use Rattle.plain_world.specs.declared.body.Body.{Body}
use Rattle.plain_world.specs.declared.joint.BodyJoint.{BodyJoint}
use Rattle.plain_world.specs.Bodies.{AreBodies}
use Rattle.plain_world.specs.Momentum.{momentum}
use Rattle.plain_world.specs.Formed.{HasPoints}
use Rattle.plain_world.specs.Joints.{AreJoints, joint_at}
use Rattle.plain_world.specs.InSlots.{impulse_set, with_impulse, HaveSameSlots}
use Rattle.solver_sets.specs.Alike.{HaveSameEnds, ends_in}
use Rattle.solver_sets.specs.Ties.{touching_keys}
use Rattle.world_core_base.specs.ConstraintRows.{put_joint_row, with_joint_rows}
use Rattle.world_core_base.specs.Gather.{impulses_of, with_motions, with_row, with_rows}
use Rattle.world_core_base.specs.ContactBodies.{AreContactsOf}
use Rattle.world_core_base.specs.Renewal.{renewed_bodies}
use Rattle.world_core_base.proofs.ContactLaws.{keys_stay, rows_kept, rows_same, touches_with_row}
use Rattle.world_rules.specs.Sound.{HasBodies}
use Rattle.world_rules.specs.World.{World}
use Rattle.world_rules.proofs.KeptStep.{IsTicked}
use Rattle.world_rules.proofs.SoundLaws.{IsKept}
use Rattle.world_rules.proofs.TickedLaws.{alike_conditions, moved_conditions, moved_same_shapes, timers_conditions}

-- ---- joints

ends_set : (joints : List (Option BodyJoint)) (slot : ℕ) (impulse : ℤ) (j : BodyJoint) → joint_at joints slot ≡ Some j → map ends_in (slice_set joints slot (Some (with_impulse impulse j))) ≡ map ends_in joints
ends_set [] slot impulse j e = refl
ends_set (o ∷ os) zero impulse j e = ap (λ (p : Option BodyJoint). ends_in p ∷ map ends_in os) (sym e)
ends_set (o ∷ os) (suc slot) impulse j e = ap (λ (l : List (Option (ℕ × ℕ))). ends_in o ∷ l) (ends_set os slot impulse j e)

ends_put : (r : JointRow) (joints : List (Option BodyJoint)) (o : Option BodyJoint) → joint_at joints r.bodies.index ≡ o → map ends_in (impulse_set r.bodies.index r.impulse joints o) ≡ map ends_in joints
ends_put r joints None e = refl
ends_put r joints (Some j) e = ends_set joints r.bodies.index r.impulse j e

-- the joints have other impulses, and else are as they were
pub ends_rows : (joints : List (Option BodyJoint)) (rows : List JointRow) → HaveSameEnds joints (with_joint_rows joints rows)
ends_rows joints [] = refl
ends_rows joints (r ∷ rs) = ends_rows (put_joint_row r joints) rs ∙ ends_put r joints (joint_at joints r.bodies.index) refl

-- ---- contacts

any_row : (rows : List ContactRow) → All (λ r. Unit {0}) rows
any_row rows k d lt = tt

-- what each row keeps, all rows keep
all_rows : (P : ContactEntry → Type 0) → ((r : ContactRow) (e : ContactEntry) → P e → P (with_row r e)) → (contacts : List ContactEntry) (rows : List ContactRow) → All P contacts → All P (with_rows contacts rows)
all_rows P f contacts rows all = rows_kept P (λ r. Unit {0}) (λ r e any p. f r e p) contacts rows (any_row rows) all

pub keys_rise_rows : (contacts : List ContactEntry) (rows : List ContactRow) → AreKeysRising contacts → AreKeysRising (with_rows contacts rows)
keys_rise_rows contacts rows h = subst IsStrictlyIncreasing (sym (keys_stay contacts rows)) h

abbrev key_in : ContactEntry → ContactKey
key_in e = e.key

abbrev touches_in : ContactEntry → Bool
touches_in e = touches e.contact

one_touching : (t u : Bool) (x y : ContactEntry) (xs ys : List ContactEntry) → t ≡ u → x.key ≡ y.key → map key_in xs ≡ map key_in ys → map key_in (cond t (x ∷ xs) xs) ≡ map key_in (cond u (y ∷ ys) ys)
one_touching true true x y xs ys e k rest = λ j. k j ∷ rest j
one_touching true false x y xs ys e k rest = cc
one_touching false true x y xs ys e k rest = cc
one_touching false false x y xs ys e k rest = rest

same_touching : (xs ys : List ContactEntry) → map key_in xs ≡ map key_in ys → map touches_in xs ≡ map touches_in ys → touching_keys xs ≡ touching_keys ys
same_touching [] [] e f = refl
same_touching [] (y ∷ ys) e f = cc
same_touching (x ∷ xs) [] e f = cc
same_touching (x ∷ xs) (y ∷ ys) e f =
    one_touching (touches_in x) (touches_in y) x y (filter touches_in xs) (filter touches_in ys) (cc) (cc) (same_touching xs ys (cc) (cc))

-- the same contacts touch
pub touching_rows : (contacts : List ContactEntry) (rows : List ContactRow) → touching_keys (with_rows contacts rows) ≡ touching_keys contacts
touching_rows contacts rows =
    same_touching (with_rows contacts rows) contacts (rows_same key_in (λ r e. refl) contacts rows) (rows_same touches_in touches_with_row contacts rows)

-- ---- a row's impulses leave the points as they are

candidate_kept : (i : Impulses) (o : Option ContactPoint) → ForSome o (λ p. p.candidate ≤ 3) → ForSome (option_map (with_impulses i) o) (λ p. p.candidate ≤ 3)
candidate_kept i None h = λ x e. cc
candidate_kept i (Some p) h = λ x e. let same : with_impulses i p ≡ x = cc in subst (λ (q : ContactPoint). q.candidate ≤ 3) same (h p refl)

second_candidate : (i : Option Impulses) (o : Option ContactPoint) → ForSome o (λ p. p.candidate ≤ 3) → ForSome (with_second i o) (λ p. p.candidate ≤ 3)
second_candidate None o h = h
second_candidate (Some i) o h = candidate_kept i o h

-- the point q, with its impulses or with others
record IsOf (o : Option ContactPoint) (q : ContactPoint) : Type 0 where
  point : ContactPoint
  there : o ≡ Some point
  candidate : point.candidate ≡ q.candidate

mapped_of : (i : Impulses) (o : Option ContactPoint) (q : ContactPoint) → option_map (with_impulses i) o ≡ Some q → IsOf o q
mapped_of i None q e = cc
mapped_of i (Some p) q e = let same : with_impulses i p ≡ q = cc in record { point = p; there = refl; candidate = ap (λ (r : ContactPoint). r.candidate) same }

second_of : (i : Option Impulses) (o : Option ContactPoint) (q : ContactPoint) → with_second i o ≡ Some q → IsOf o q
second_of None o q e = record { point = q; there = e; candidate = refl }
second_of (Some i) o q e = mapped_of i o q e

row_beside : (r : ContactRow) (e : ContactEntry) → HasPoints e.contact → (q : ContactPoint) → (with_row r e).contact.second ≡ Some q → (p : ContactPoint) × ((with_row r e).contact.first ≡ Some p) × ((q.candidate == p.candidate) ≡ false)
row_beside r e h q is =
    let own = second_of (option_map impulses_of r.second) e.contact.second q is in
    let first = h.beside own.point own.there in
    (with_impulses (impulses_of r.first) first.0, ap (option_map (with_impulses (impulses_of r.first))) first.1, rw own.candidate at first.2)

row_points : (r : ContactRow) (e : ContactEntry) → HasPoints e.contact → HasPoints (with_row r e).contact
row_points r e h = record {
  first = candidate_kept (impulses_of r.first) e.contact.first h.first;
  second = second_candidate (option_map impulses_of r.second) e.contact.second h.second;
  beside = row_beside r e h;
}

pub has_bodies_rows : (bodies : List (Option Body)) (contacts : List ContactEntry) (rows : List ContactRow) → All (HasBodies bodies) contacts → All (HasBodies bodies) (with_rows contacts rows)
has_bodies_rows bodies contacts rows all =
    all_rows (HasBodies bodies) (λ r e h. record { first = h.first; second = h.second; first_shape = h.first_shape; second_shape = h.second_shape; order = h.order; surface = h.surface; named = h.named; points = row_points r e h.points }) contacts rows all

-- ---- what the arrays of a step leave

-- the motions of the states and the impulses of the rows, where they leave bodies, joints and contacts within their
-- limits
pub ticked_of : (w : World) (states : List BodyState) (rows : List ConstraintRow) (sums : StepSums) → IsKept w
    → let new : List (Option Body) = renewed_bodies (with_motions w.plain.bodies states) in
    AreBodies new → HaveSameSlots w.plain.bodies new → AreSums (2 ^ 83) sums → momentum new ≡ plus (momentum w.plain.bodies) (added sums)
    → AreJoints w.plain.bodies (with_joint_rows w.plain.joints (joints_among rows)) → AreContactsOf w.plain.bodies (with_rows w.plain.contacts (contacts_among rows))
    → IsTicked w.plain new (with_joint_rows w.plain.joints (joints_among rows)) (with_rows w.plain.contacts (contacts_among rows)) sums
ticked_of w states rows sums k bodies slots small gain joints pairs =
    let same = moved_conditions w.plain.bodies states in
    let new : List (Option Body) = renewed_bodies (with_motions w.plain.bodies states) in
    record {
      bodies = bodies;
      slots = slots;
      shapes = moved_same_shapes w.plain.bodies states;
      alike = alike_conditions w.plain.bodies new same;
      timers = timers_conditions w.plain.bodies new w.plain.steps same k.timers;
      small = small;
      gain = gain;
      joints = joints;
      ends = ends_rows w.plain.joints (joints_among rows);
      rising = keys_rise_rows w.plain.contacts (contacts_among rows) k.contacts;
      pairs = pairs;
      there = has_bodies_rows w.plain.bodies w.plain.contacts (contacts_among rows) k.there;
      touching = touching_rows w.plain.contacts (contacts_among rows);
    }
