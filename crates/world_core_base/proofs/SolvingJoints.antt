-- Joints by slot in a step: a joint that is put back, its row, its bodies, and the impulses that rows give back to
-- joints.
use Rattle.std.proofs.Common.{◌≡◌, ◌≢◌, ◌⊎◌, inl, inr, ℕ, zero, suc, List, [], ◌∷◌, map, Option, Some, None, All, pos, refl, sym, ap, ◌∙◌, subst, slice_set}
use Rattle.std.specs.Prelude.{option_map}
use Rattle.std.specs.List.{slice_get, filter_map, cons_option}
use Rattle.std.proofs.lemmas.Bool.{cases_eq}
use Rattle.std.proofs.lemmas.List.Elements.{All-nil, All-cons, All-tail, All-weaker}
use Rattle.std.proofs.lemmas.Option.{none-some, same_Some, slice_get-map}
use Rattle.std.specs.Option.{option_flatten}
use Rattle.momenta.specs.declared.state.BodyState.{BodyState}
use Rattle.joint_rows.specs.Rows.{joint_row}
use Rattle.plain_world.specs.declared.constraint.Constraint.{Constraint}
use Rattle.plain_world.specs.declared.constraint.Constraint.TheVariants as constraints
use Rattle.plain_world.specs.declared.body.Body.{Body}
use Rattle.plain_world.specs.declared.joint.BodyJoint.{BodyJoint}
use Rattle.plain_world.specs.Joints.{joint_at}
use Rattle.plain_world.specs.InSlots.{impulse_set, with_impulse}
use Rattle.world_core_base.specs.ConstraintRows.{joint_bodies, joint_ends, joint_row_in, joint_row_of, put_joint_row, with_joint_rows}
use Rattle.world_core_base.specs.SolvingArrays.{HasEnds, JointHasEnds}

-- ---- joints without their impulses

abbrev pub bare_joint : BodyJoint → BodyJoint
bare_joint j = with_impulse (pos 0) j

abbrev pub bare_entry : Option BodyJoint → Option BodyJoint
bare_entry o = option_map bare_joint o

abbrev pub bare_joints : List (Option BodyJoint) → List (Option BodyJoint)
bare_joints joints = map bare_entry joints

pub joint_bare : (js : List (Option BodyJoint)) (slot : ℕ) → joint_at (bare_joints js) slot ≡ bare_entry (joint_at js slot)
joint_bare [] slot = refl
joint_bare (o ∷ os) zero = refl
joint_bare (o ∷ os) (suc slot) = joint_bare os slot

-- ---- a joint that is put back

pub joint_put_same : (js : List (Option BodyJoint)) (slot : ℕ) (j k : BodyJoint) → joint_at js slot ≡ Some j → joint_at (slice_set js slot (Some k)) slot ≡ Some k
joint_put_same [] slot j k e = absurd (none-some j e)
joint_put_same (o ∷ os) zero j k e = refl
joint_put_same (o ∷ os) (suc slot) j k e = joint_put_same os slot j k e

pub joint_put_other : (js : List (Option BodyJoint)) (slot other : ℕ) (o : Option BodyJoint) → slot ≢ other → joint_at (slice_set js slot o) other ≡ joint_at js other
joint_put_other [] slot other o ne = refl
joint_put_other (p ∷ ps) zero zero o ne = absurd (ne refl)
joint_put_other (p ∷ ps) zero (suc other) o ne = refl
joint_put_other (p ∷ ps) (suc slot) zero o ne = refl
joint_put_other (p ∷ ps) (suc slot) (suc other) o ne = joint_put_other ps slot other o (λ e. ne (ap suc e))

-- one that differs in its impulse at most
pub bare_put : (js : List (Option BodyJoint)) (slot : ℕ) (j k : BodyJoint) → joint_at js slot ≡ Some j → bare_joint k ≡ bare_joint j → bare_joints (slice_set js slot (Some k)) ≡ bare_joints js
bare_put [] slot j k e same = refl
bare_put (o ∷ os) zero j k e same = ap (λ (b : BodyJoint). Some b ∷ bare_joints os) same ∙ ap (λ (p : Option BodyJoint). bare_entry p ∷ bare_joints os) (sym e)
bare_put (o ∷ os) (suc slot) j k e same = ap (λ (l : List (Option BodyJoint)). bare_entry o ∷ l) (bare_put os slot j k e same)

-- ---- the bodies of joints that differ in their impulses at most

ends_bare : (bodies : List (Option Body)) (o : Option BodyJoint) → JointHasEnds bodies o → JointHasEnds bodies (bare_entry o)
ends_bare bodies None h = h
ends_bare bodies (Some j) h = h

ends_unbare : (bodies : List (Option Body)) (o : Option BodyJoint) → JointHasEnds bodies (bare_entry o) → JointHasEnds bodies o
ends_unbare bodies None h = h
ends_unbare bodies (Some j) h = h

pub ends_as : (bodies : List (Option Body)) (js ks : List (Option BodyJoint)) (id : Constraint) → bare_joints js ≡ bare_joints ks → HasEnds bodies js id → HasEnds bodies ks id
ends_as bodies js ks (constraints.Contact key) same h = h
ends_as bodies js ks (constraints.Joint g) same h =
    ends_unbare bodies (joint_at ks g.slot)
    (subst (JointHasEnds bodies) (sym (joint_bare js g.slot) ∙ ap (λ (l : List (Option BodyJoint)). joint_at l g.slot) same ∙ joint_bare ks g.slot) (ends_bare bodies (joint_at js g.slot) h))

pub all_ends_as : (bodies : List (Option Body)) (js ks : List (Option BodyJoint)) (todo : List Constraint) → bare_joints js ≡ bare_joints ks → All (HasEnds bodies js) todo → All (HasEnds bodies ks) todo
all_ends_as bodies js ks todo same all = All-weaker (HasEnds bodies js) (HasEnds bodies ks) (λ id h. ends_as bodies js ks id same h) todo all

-- ---- lists by slot

same_gets : {X : Type 0} (xs ys : List X) → ((j : ℕ) → slice_get xs j ≡ slice_get ys j) → xs ≡ ys
same_gets [] [] h = refl
same_gets [] (y ∷ ys) h = absurd (none-some y (h 0))
same_gets (x ∷ xs) [] h = absurd (none-some x (sym (h 0)))
same_gets (x ∷ xs) (y ∷ ys) h = λ j. same_Some x y (h 0) j ∷ same_gets xs ys (λ k. h (suc k)) j

entry_is : (js : List (Option BodyJoint)) (slot : ℕ) (j : BodyJoint) → joint_at js slot ≡ Some j → slice_get js slot ≡ Some (Some j)
entry_is [] slot j e = absurd (none-some j e)
entry_is (o ∷ os) zero j e = ap (λ (p : Option BodyJoint). Some p) e
entry_is (o ∷ os) (suc slot) j e = entry_is os slot j e

get_put_same : (js : List (Option BodyJoint)) (slot : ℕ) (j k : BodyJoint) → joint_at js slot ≡ Some j → slice_get (slice_set js slot (Some k)) slot ≡ Some (Some k)
get_put_same js slot j k e = entry_is (slice_set js slot (Some k)) slot k (joint_put_same js slot j k e)

get_put_other : (js : List (Option BodyJoint)) (i j : ℕ) (o : Option BodyJoint) → i ≢ j → slice_get (slice_set js i o) j ≡ slice_get js j
get_put_other [] i j o ne = refl
get_put_other (p ∷ ps) zero zero o ne = absurd (ne refl)
get_put_other (p ∷ ps) zero (suc j) o ne = refl
get_put_other (p ∷ ps) (suc i) zero o ne = refl
get_put_other (p ∷ ps) (suc i) (suc j) o ne = get_put_other ps i j o (λ e. ne (ap suc e))

-- ---- joints that have other impulses, of these constraints alone

-- the constraint isn't the joint in the slot
abbrev pub IsAway : ℕ → Constraint → Type 0
IsAway slot (constraints.Joint h) = h.slot ≢ slot
IsAway slot (constraints.Contact key) = Unit {0}

pub record AreImpulsed (order : List Constraint) (js ks : List (Option BodyJoint)) : Type 0 where
  pub barely : bare_joints ks ≡ bare_joints js
  pub others : (slot : ℕ) → All (IsAway slot) order → slice_get ks slot ≡ slice_get js slot

pub none_impulsed : (order : List Constraint) (js : List (Option BodyJoint)) → AreImpulsed order js js
none_impulsed order js = record { barely = refl; others = λ slot h. refl }

pub joints_then : (order : List Constraint) (js ks ls : List (Option BodyJoint)) → AreImpulsed order js ks → AreImpulsed order ks ls → AreImpulsed order js ls
joints_then order js ks ls h k = record { barely = k.barely ∙ h.barely; others = λ slot all. k.others slot all ∙ h.others slot all }

-- of one constraint more
pub joints_more : (id : Constraint) (order : List Constraint) (js ks : List (Option BodyJoint)) → AreImpulsed order js ks → AreImpulsed (id ∷ order) js ks
joints_more id order js ks h = record { barely = h.barely; others = λ slot all. h.others slot (All-tail (IsAway slot) id order all) }

-- the joint in a slot put back
pub put_impulsed : (order : List Constraint) (js : List (Option BodyJoint)) (slot : ℕ) (j k : BodyJoint) → joint_at js slot ≡ Some j → bare_joint k ≡ bare_joint j → ((other : ℕ) → All (IsAway other) order → slot ≢ other) → AreImpulsed order js (slice_set js slot (Some k))
put_impulsed order js slot j k is same apart = record {
  barely = bare_put js slot j k is same;
  others = λ other all. get_put_other js slot other (Some k) (apart other all);
}

-- ---- the impulses given back

-- the joint d with the impulse of j, from which it differs in nothing else
filled : (j d : BodyJoint) → bare_joint d ≡ bare_joint j → with_impulse j.joint.impulse d ≡ j
filled j d e = ap (with_impulse j.joint.impulse) e

record IsBareAt (js : List (Option BodyJoint)) (slot : ℕ) (j : BodyJoint) : Type 0 where
  joint : BodyJoint
  there : joint_at js slot ≡ Some joint
  same : bare_joint joint ≡ bare_joint j

bare_at : (js ks : List (Option BodyJoint)) (slot : ℕ) (j : BodyJoint) → bare_joints js ≡ bare_joints ks → joint_at ks slot ≡ Some j → IsBareAt js slot j
bare_at js ks slot j e is = by (joint_at js slot) refl (sym (joint_bare js slot) ∙ ap (λ (l : List (Option BodyJoint)). joint_at l slot) e ∙ joint_bare ks slot ∙ ap bare_entry is)
  where
    by : (o : Option BodyJoint) → joint_at js slot ≡ o → bare_entry o ≡ Some (bare_joint j) → IsBareAt js slot j
    by None at same = absurd (none-some (bare_joint j) same)
    by (Some d) at same = record { joint = d; there = at; same = same_Some (bare_joint d) (bare_joint j) same }

put_is : (states : List BodyState) (js : List (Option BodyJoint)) (slot : ℕ) (j d : BodyJoint) → joint_at js slot ≡ Some d → bare_joint d ≡ bare_joint j
    → put_joint_row (joint_row (joint_bodies slot j) (joint_ends states j) j.joint) js ≡ slice_set js slot (Some j)
unfolding joint_row
put_is states js slot j d there same = ap (impulse_set slot j.joint.impulse js) there ∙ ap (λ (k : BodyJoint). slice_set js slot (Some k)) (filled j d same)

-- where there is no joint, none was
still_none : (js ks : List (Option BodyJoint)) (slot : ℕ) → bare_joints js ≡ bare_joints ks → joint_at ks slot ≡ None → slice_get js slot ≡ slice_get ks slot
still_none js ks slot e is =
    by (slice_get js slot) (slice_get ks slot) (no_item (slice_get ks slot) is)
    (sym (slice_get-map bare_entry js slot) ∙ ap (λ (l : List (Option BodyJoint)). slice_get l slot) e ∙ slice_get-map bare_entry ks slot)
  where
    no_item : (o : Option (Option BodyJoint)) → option_flatten o ≡ None → (o ≡ None) ⊎ (o ≡ Some None)
    no_item None h = inl refl
    no_item (Some None) h = inr refl
    no_item (Some (Some j)) h = absurd (none-some j (sym h))

    by : (o p : Option (Option BodyJoint)) → (p ≡ None) ⊎ (p ≡ Some None) → option_map bare_entry o ≡ option_map bare_entry p → o ≡ p
    by None None h same = refl
    by None (Some p) h same = absurd (none-some (bare_entry p) same)
    by (Some o) None h same = absurd (none-some (bare_entry o) (sym same))
    by (Some None) (Some None) h same = refl
    by (Some (Some d)) (Some None) h same = absurd (none-some (bare_joint d) (sym (same_Some (Some (bare_joint d)) None same)))
    by (Some o) (Some (Some j)) (inl h) same = absurd (none-some (Some j) (sym h))
    by (Some o) (Some (Some j)) (inr h) same = absurd (none-some j (sym (same_Some (Some j) None h)))

abbrev IsSameBeside : List (Option BodyJoint) → List Constraint → List (Option BodyJoint) → Type 0
IsSameBeside js todo ks = (slot : ℕ) → All (IsAway slot) todo → slice_get js slot ≡ slice_get ks slot

same_rest : (js ks : List (Option BodyJoint)) (id : Constraint) (todo : List Constraint) (slot : ℕ) → IsAway slot id → IsSameBeside js (id ∷ todo) ks → All (IsAway slot) todo → slice_get js slot ≡ slice_get ks slot
same_rest js ks id todo slot away same rest = same slot (All-cons (IsAway slot) id todo away rest)

-- the rows' impulses make ks of js
pub joints_back : (states : List BodyState) (todo : List Constraint) (js ks : List (Option BodyJoint)) → bare_joints js ≡ bare_joints ks → IsSameBeside js todo ks → with_joint_rows js (filter_map (joint_row_of states ks) todo) ≡ ks
joints_back states [] js ks barely same = same_gets js ks (λ slot. same slot (All-nil (IsAway slot)))
joints_back states (constraints.Contact key ∷ todo) js ks barely same = joints_back states todo js ks barely (λ slot rest. same_rest js ks (constraints.Contact key) todo slot tt same rest)
joints_back states (constraints.Joint h ∷ todo) js ks barely same = by (joint_at ks h.slot) refl (λ ls bare_ls beside. joints_back states todo ls ks bare_ls beside)
  where
    by : (o : Option BodyJoint) → joint_at ks h.slot ≡ o → ((ls : List (Option BodyJoint)) → bare_joints ls ≡ bare_joints ks → IsSameBeside ls todo ks → with_joint_rows ls (filter_map (joint_row_of states ks) todo) ≡ ks)
        → with_joint_rows js (cons_option (joint_row_in states h.slot o) (filter_map (joint_row_of states ks) todo)) ≡ ks
    by None is rest = rest js barely (λ slot all. elim (cases_eq h.slot slot) [
      | inl e ↦ subst (λ (n : ℕ). slice_get js n ≡ slice_get ks n) e (still_none js ks h.slot barely is)
      | inr ne ↦ same_rest js ks (constraints.Joint h) todo slot ne same all
    ])
    by (Some j) is rest =
        let at : IsBareAt js h.slot j = bare_at js ks h.slot j barely is in
        let put : put_joint_row (joint_row (joint_bodies h.slot j) (joint_ends states j) j.joint) js ≡ slice_set js h.slot (Some j) = put_is states js h.slot j at.joint at.there at.same in
        ap (λ (l : List (Option BodyJoint)). with_joint_rows l (filter_map (joint_row_of states ks) todo)) put
        ∙ rest (slice_set js h.slot (Some j)) (bare_put js h.slot at.joint j at.there (sym at.same) ∙ barely) (λ slot all. elim (cases_eq h.slot slot) [
          | inl e ↦ subst (λ (n : ℕ). slice_get (slice_set js h.slot (Some j)) n ≡ slice_get ks n) e (get_put_same js h.slot at.joint j at.there ∙ sym (entry_is ks h.slot j is))
          | inr ne ↦ get_put_other js h.slot slot (Some j) ne ∙ same_rest js ks (constraints.Joint h) todo slot ne same all
        ])
