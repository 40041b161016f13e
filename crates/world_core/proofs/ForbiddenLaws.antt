-- The pairs that joints keep from colliding, as joints come and go: those of two bodies that aren't marked stay.
use Rattle.std.proofs.Common.{◌≡◌, ℕ, zero, suc, ◌≤◌, ◌==◌, ◌||◌, Bool, true, false, cond, List, [], ◌∷◌, length, Option, Some, None, inl, inr, refl, sym, ap, ◌∙◌, subst, arith}
use Rattle.std.specs.Prelude.{◌&&◌, ◌⊎◌, nat_lt, option_map, slice_index_or, slice_set, option_and_then}
use Rattle.std.specs.List.{cons_option, list_any}
use Rattle.std.proofs.lemmas.Bool.{cases_eq}
use Rattle.std.proofs.lemmas.Bool.Decides.{nat_tests}
use Rattle.std.specs.Option.{option_flatten}
use Rattle.contacts_base.specs.declared.body_pair.BodyPair.{BodyPair}
use Rattle.contacts_base.specs.Forbidden.{is_pair_of}
use Rattle.graph_colours.proofs.Cases.{by_test}
use Rattle.plain_world.specs.declared.joint.BodyJoint.{BodyJoint}
use Rattle.plain_world.specs.Joints.{forbidden_by, forbidden_pairs, idle_if, idle_joints, is_end_in, is_joint_of, joint_at}
use Rattle.plain_world.specs.Slots.{with_item}
use Rattle.solver_sets.specs.Joining.{handle_at, unjoined, unjoined_all, unjoined_up}
use Rattle.solver_sets.specs.Ties.{JointSlots}
use Rattle.world_core_base.proofs.SolvingJoints.{bare_entry, bare_joints}
use Rattle.solver_sets.proofs.SlotLemmas.{item_at-set_none, item_at-set_other, slice_get-with, slice_get-with_own}
use Rattle.world_core_base.specs.ForbiddenPairs.{is_of, keeps_apart}
use Rattle.world_core_base.proofs.ForbiddingLaws.{any_joint}

-- ---- the pairs of all joints

either : (s t u v : Bool) → s ≡ u → t ≡ v → (s || t) ≡ (u || v)
either s t u v a b = λ j. a j || b j

-- it is one slot by slot
any_same : (a b : ℕ) (joints later : List (Option BodyJoint)) → ((slot : ℕ) → keeps_apart a b (joint_at later slot) ≡ keeps_apart a b (joint_at joints slot)) → list_any (keeps_apart a b) later ≡ list_any (keeps_apart a b) joints
any_same a b [] [] h = refl
any_same a b [] (o ∷ later) h = either (keeps_apart a b o) (list_any (keeps_apart a b) later) false false (h 0) (any_same a b [] later (λ slot. h (suc slot)))
any_same a b (o ∷ joints) [] h = sym (either (keeps_apart a b o) (list_any (keeps_apart a b) joints) false false (sym (h 0)) (sym (any_same a b joints [] (λ slot. h (suc slot)))))
any_same a b (o ∷ joints) (p ∷ later) h = either (keeps_apart a b p) (list_any (keeps_apart a b) later) (keeps_apart a b o) (list_any (keeps_apart a b) joints) (h 0) (any_same a b joints later (λ slot. h (suc slot)))

-- ---- two pairs

-- where one of a pair's bodies is neither of two, the pair isn't of these two
first_apart : (s t u v : Bool) → s ≡ false → u ≡ false → ((s && t) || (u && v)) ≡ false
first_apart s t u v e f = rw (e, f) refl

none_of : (s u : Bool) → ((s && false) || (u && false)) ≡ false
none_of true true = refl
none_of true false = refl
none_of false true = refl
none_of false false = refl

second_apart : (s t u v : Bool) → t ≡ false → v ≡ false → ((s && t) || (u && v)) ≡ false
second_apart s t u v e f = rw (e, f) (none_of s u)

other_slot : (n m : ℕ) → (n ≡ m → ⊥) → (n == m) ≡ false
other_slot n m f = grind (arith, nat_tests)

-- ---- marks

-- of two slots that aren't marked the pair is among the one joints' pairs just if it is among the others'
abbrev pub HaveSamePairs : List Bool → List (Option BodyJoint) → List (Option BodyJoint) → Type 0
HaveSamePairs marks joints later = (a b : ℕ) → slice_index_or marks a true ≡ false → slice_index_or marks b true ≡ false → list_any (is_pair_of a b) (forbidden_pairs later) ≡ list_any (is_pair_of a b) (forbidden_pairs joints)

-- one of the joint's ends is marked
abbrev pub IsEndMarked : List Bool → BodyJoint → Type 0
IsEndMarked marks j = (slice_index_or marks j.a true ≡ true) ⊎ (slice_index_or marks j.b true ≡ true)

marked_apart : (marks : List Bool) (x a : ℕ) → slice_index_or marks x true ≡ true → slice_index_or marks a true ≡ false → x ≡ a → ⊥
marked_apart marks x a on off e =
    let same : slice_index_or marks x true ≡ slice_index_or marks a true = ap (λ (n : ℕ). slice_index_or marks n true) e in
    cc

marked_other : (marks : List Bool) (x a : ℕ) → slice_index_or marks x true ≡ true → slice_index_or marks a true ≡ false → (x == a) ≡ false
marked_other marks x a on off = other_slot x a (marked_apart marks x a on off)

pair_apart : (marks : List Bool) (j : BodyJoint) (a b : ℕ) → IsEndMarked marks j → slice_index_or marks a true ≡ false → slice_index_or marks b true ≡ false → is_pair_of a b (record { a = j.a; b = j.b }) ≡ false
pair_apart marks j a b is fa fb = elim is [
  | inl on ↦ first_apart (j.a == a) (j.b == b) (j.a == b) (j.b == a) (marked_other marks j.a a on fa) (marked_other marks j.a b on fb)
  | inr on ↦ second_apart (j.a == a) (j.b == b) (j.a == b) (j.b == a) (marked_other marks j.b b on fb) (marked_other marks j.b a on fa)
]

pair_if : (a b : ℕ) (t : Bool) (pair : BodyPair) → is_pair_of a b pair ≡ false → is_of a b (cond t None (Some pair)) ≡ false
pair_if a b true pair h = refl
pair_if a b false pair h = h

-- the joint in a slot stays, or an end of what is there before and after is marked
abbrev pub IsMarkedJoint : List Bool → Option BodyJoint → Option BodyJoint → Type 0
IsMarkedJoint marks o p = (p ≡ o) ⊎ (((j : BodyJoint) → o ≡ Some j → IsEndMarked marks j) × ((j : BodyJoint) → p ≡ Some j → IsEndMarked marks j))

forbids_none : (marks : List Bool) (o : Option BodyJoint) (a b : ℕ) → ((j : BodyJoint) → o ≡ Some j → IsEndMarked marks j) → slice_index_or marks a true ≡ false → slice_index_or marks b true ≡ false → keeps_apart a b o ≡ false
forbids_none marks None a b is fa fb = refl
forbids_none marks (Some j) a b is fa fb = pair_if a b j.collide (record { a = j.a; b = j.b }) (pair_apart marks j a b (is j refl) fa fb)

pub same_pairs : (marks : List Bool) (joints later : List (Option BodyJoint)) → ((slot : ℕ) → IsMarkedJoint marks (joint_at joints slot) (joint_at later slot)) → HaveSamePairs marks joints later
same_pairs marks joints later h a b fa fb =
    any_joint a b later
    ∙ any_same a b joints later (λ slot. elim (h slot) [
      | inl same ↦ ap (keeps_apart a b) same
      | inr is ↦ forbids_none marks (joint_at later slot) a b is.1 fa fb ∙ sym (forbids_none marks (joint_at joints slot) a b is.0 fa fb)
    ])
    ∙ sym (any_joint a b joints)

pub pairs_stay : (marks : List Bool) (joints later : List (Option BodyJoint)) → forbidden_pairs later ≡ forbidden_pairs joints → HaveSamePairs marks joints later
pairs_stay marks joints later same a b fa fb = ap (λ (pairs : List BodyPair). list_any (is_pair_of a b) pairs) same

-- ---- joints whose impulses alone change

idle_pair : (slot : ℕ) (o : Option BodyJoint) → option_and_then forbidden_by (option_map (idle_if slot) o) ≡ option_and_then forbidden_by o
idle_pair slot None = refl
idle_pair slot (Some j) = by_test (λ (i : BodyJoint). forbidden_by i ≡ forbidden_by j) (is_joint_of slot j) _ j (λ q. refl) (λ q. refl)

pub idle_pairs : (slot : ℕ) (joints : List (Option BodyJoint)) → forbidden_pairs (idle_joints slot joints) ≡ forbidden_pairs joints
idle_pairs slot [] = refl
idle_pairs slot (o ∷ joints) = λ j. cons_option (idle_pair slot o j) (idle_pairs slot joints j)

bare_pair : (o : Option BodyJoint) → option_and_then forbidden_by (bare_entry o) ≡ option_and_then forbidden_by o
bare_pair None = refl
bare_pair (Some j) = refl

bare_pairs : (joints : List (Option BodyJoint)) → forbidden_pairs (bare_joints joints) ≡ forbidden_pairs joints
bare_pairs [] = refl
bare_pairs (o ∷ joints) = λ j. cons_option (bare_pair o j) (bare_pairs joints j)

pub barely_pairs : (joints later : List (Option BodyJoint)) → bare_joints later ≡ bare_joints joints → forbidden_pairs later ≡ forbidden_pairs joints
barely_pairs joints later same = sym (bare_pairs later) ∙ ap forbidden_pairs same ∙ bare_pairs joints

-- ---- joints that come and go

some_same : (x y : BodyJoint) → Some x ≡ Some y → x ≡ y
some_same x y e = cc

-- one joint comes into a slot that was empty, at most one past the end
pub joint_comes : (marks : List Bool) (joints : List (Option BodyJoint)) (slot : ℕ) (j : BodyJoint) → joint_at joints slot ≡ None → slot ≤ length joints → IsEndMarked marks j → HaveSamePairs marks joints (with_item joints slot j)
joint_comes marks joints slot j free le is =
    let last : nat_lt slot (length joints) ≡ false → slot ≡ length joints = λ q. grind (arith, nat_tests) in
    same_pairs marks joints (with_item joints slot j) (λ k. elim (cases_eq k slot) [
      | inl here ↦ inr (
        λ i e. let none : joint_at joints k ≡ None = ap (joint_at joints) here ∙ free in cc,
        λ i e.
            let own : joint_at (with_item joints slot j) slot ≡ Some j = ap option_flatten (slice_get-with_own (nat_lt slot (length joints)) joints slot (Some j) (λ q. grind (arith, nat_tests)) last) in
            subst (IsEndMarked marks) (some_same j i (sym own ∙ sym (ap (joint_at (with_item joints slot j)) here) ∙ e)) is,
      )
      | inr far ↦ inl (ap option_flatten (slice_get-with (nat_lt slot (length joints)) joints slot k (Some j) last far))
    ])

-- the joint in a slot goes
pub joint_goes : (marks : List Bool) (joints : List (Option BodyJoint)) (slot : ℕ) → ((j : BodyJoint) → joint_at joints slot ≡ Some j → IsEndMarked marks j) → HaveSamePairs marks joints (slice_set joints slot None)
joint_goes marks joints slot is = same_pairs marks joints (slice_set joints slot None) (λ k. elim (cases_eq k slot) [
  | inl here ↦ inr (
    λ j e. is j (sym (ap (joint_at joints) here) ∙ e),
    λ j e. let none : joint_at (slice_set joints slot None) k ≡ None = ap (joint_at (slice_set joints slot None)) here ∙ item_at-set_none joints slot in cc,
  )
  | inr far ↦ inl (item_at-set_other joints slot None k far)
])

-- of the joints of one body, each stays or is gone
abbrev IsLeftOf : ℕ → Option BodyJoint → Option BodyJoint → Type 0
IsLeftOf body o p = (p ≡ o) ⊎ ((p ≡ None) × (is_end_in body o ≡ true))

left_then : (body : ℕ) (o p : Option BodyJoint) → is_end_in body p ≡ true → IsLeftOf body o p → IsLeftOf body o None
left_then body o p end (inl same) = inr (refl, ap (is_end_in body) (sym same) ∙ end)
left_then body o p end (inr gone) = inr (refl, gone.1)

left_without : (body n : ℕ) (old new : List (Option BodyJoint)) → is_end_in body (joint_at new n) ≡ true → ((k : ℕ) → IsLeftOf body (joint_at old k) (joint_at new k)) → (k : ℕ) → IsLeftOf body (joint_at old k) (joint_at (slice_set new n None) k)
left_without body n old new end h k = elim (cases_eq k n) [
  | inl here ↦
      let none : joint_at (slice_set new n None) k ≡ None = ap (joint_at (slice_set new n None)) here ∙ item_at-set_none new n in
      let ends : is_end_in body (joint_at new k) ≡ true = ap (λ (m : ℕ). is_end_in body (joint_at new m)) here ∙ end in
      subst (IsLeftOf body (joint_at old k)) (sym none) (left_then body (joint_at old k) (joint_at new k) ends (h k))
  | inr far ↦ subst (IsLeftOf body (joint_at old k)) (sym (item_at-set_other new n None k far)) (h k)
]

left_up : (body n : ℕ) (s : JointSlots) (k : ℕ) → IsLeftOf body (joint_at s.joints k) (joint_at (unjoined_up body n s).joints k)
left_up body zero s k = inl refl
left_up body (suc n) s k =
    let before : JointSlots = unjoined_up body n s in
    by_test (λ (r : JointSlots). IsLeftOf body (joint_at s.joints k) (joint_at r.joints k)) (is_end_in body (joint_at before.joints n)) (unjoined (handle_at before.slot_entries n) before) before
    (λ q. left_without body n s.joints before.joints q (left_up body n s) k) (λ q. left_up body n s k)

one_of : (s t : Bool) → (s || t) ≡ true → (s ≡ true) ⊎ (t ≡ true)
one_of true t e = inl refl
one_of false t e = inr e

same_slot : (x y : ℕ) → (x == y) ≡ true → x ≡ y
same_slot x y e = grind (arith, nat_tests)

end_of : (marks : List Bool) (body : ℕ) (j : BodyJoint) → slice_index_or marks body true ≡ true → is_joint_of body j ≡ true → IsEndMarked marks j
end_of marks body j on e = elim (one_of (j.a == body) (j.b == body) e) [
  | inl first ↦ inl (ap (λ (n : ℕ). slice_index_or marks n true) (same_slot j.a body first) ∙ on)
  | inr second ↦ inr (ap (λ (n : ℕ). slice_index_or marks n true) (same_slot j.b body second) ∙ on)
]

left_marked : (marks : List Bool) (body : ℕ) (o p : Option BodyJoint) → slice_index_or marks body true ≡ true → IsLeftOf body o p → IsMarkedJoint marks o p
left_marked marks body o p on (inl same) = inl same
left_marked marks body o p on (inr gone) = inr (
  λ j e. end_of marks body j on (sym (ap (is_end_in body) e) ∙ gone.1),
  λ j e. let none : None ≡ Some j = sym gone.0 ∙ e in cc,
)

-- all joints of a body go, whose slot is marked
pub joints_go : (marks : List Bool) (body : ℕ) (s : JointSlots) → slice_index_or marks body true ≡ true → HaveSamePairs marks s.joints (unjoined_all body s).joints
joints_go marks body s on = same_pairs marks s.joints (unjoined_all body s).joints (λ k. left_marked marks body (joint_at s.joints k) (joint_at (unjoined_all body s).joints k) on (left_up body (length s.joints) s k))
