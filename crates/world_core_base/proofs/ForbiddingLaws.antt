-- Which pairs of bodies joints keep from colliding: the joints of either of the two bodies tell it.
use Rattle.std.proofs.Common.{◌≡◌, ℕ, zero, suc, ◌==◌, ◌||◌, Bool, true, false, cond, List, [], ◌∷◌, Option, Some, None, ◌⊎◌, inl, inr, refl, sym, ap, ◌∙◌}
use Rattle.std.specs.Prelude.{◌/◌, ◌&&◌, option_and_then}
use Rattle.std.specs.List.{cons_option, list_any}
use Rattle.contacts_base.specs.declared.body_pair.BodyPair.{BodyPair}
use Rattle.contacts_base.specs.Forbidden.{is_pair_of}
use Rattle.contacts_base.proofs.Members.{IsIn, in_from_contains}
use Rattle.packed_sets.specs.Packs.{list_at}
use Rattle.plain_world.specs.declared.joint.BodyJoint.{BodyJoint}
use Rattle.plain_world.specs.Joints.{forbidden_pairs, is_end_in, joint_at, forbidden_by}
use Rattle.world_core_base.specs.JointEnds.{AreEnds, halves}
use Rattle.world_core_base.specs.ForbiddenPairs.{is_of, keeps_apart, one_keeps_apart}
use Rattle.world_core_base.proofs.OwnJointLaws.{all_ends}

-- ---- either of two

or_first : (s t : Bool) → s ≡ true → (s || t) ≡ true
or_first true t h = refl
or_first false t h = cc

or_second : (s t : Bool) → t ≡ true → (s || t) ≡ true
or_second true t h = refl
or_second false t h = h

one_of_two : (s t : Bool) → (s || t) ≡ true → (s ≡ true) ⊎ (t ≡ true)
one_of_two true t h = inl refl
one_of_two false t h = inr h

as_true : (s t : Bool) → (s ≡ true → t ≡ true) → (t ≡ true → s ≡ true) → s ≡ t
as_true true true f g = refl
as_true true false f g = sym (f refl)
as_true false true f g = g refl
as_true false false f g = refl

-- ---- the pair of one joint

any_option : (a b : ℕ) (o : Option BodyPair) (rest : List BodyPair) → list_any (is_pair_of a b) (cons_option o rest) ≡ (is_of a b o || list_any (is_pair_of a b) rest)
any_option a b None rest = refl
any_option a b (Some pair) rest = refl

-- each pair is that of a joint
pub any_joint : (a b : ℕ) (joints : List (Option BodyJoint)) → list_any (is_pair_of a b) (forbidden_pairs joints) ≡ list_any (keeps_apart a b) joints
any_joint a b [] = refl
any_joint a b (o ∷ joints) = any_option a b (option_and_then forbidden_by o) (forbidden_pairs joints) ∙ ap (λ (t : Bool). keeps_apart a b o || t) (any_joint a b joints)

-- ---- a joint that keeps two bodies apart is one of either

-- where both ends are named in one order or in the other, one of them is the first name, and one the second
first_named : (s t u v : Bool) → ((s && t) || (u && v)) ≡ true → (s || v) ≡ true
first_named true t u v h = refl
first_named false t true v h = h
first_named false t false v h = cc

second_named : (s t u v : Bool) → ((s && t) || (u && v)) ≡ true → (u || t) ≡ true
second_named s t true v h = refl
second_named true true false v h = refl
second_named true false false v h = cc
second_named false t false v h = cc

pair_if : (a b : ℕ) (t : Bool) (pair : BodyPair) → is_of a b (cond t None (Some pair)) ≡ true → is_pair_of a b pair ≡ true
pair_if a b true pair h = cc
pair_if a b false pair h = h

first_is_end : (a b : ℕ) (o : Option BodyJoint) → keeps_apart a b o ≡ true → is_end_in a o ≡ true
first_is_end a b None h = cc
first_is_end a b (Some j) h = first_named (j.a == a) (j.b == b) (j.a == b) (j.b == a) (pair_if a b j.collide (record { a = j.a; b = j.b }) h)

second_is_end : (a b : ℕ) (o : Option BodyJoint) → keeps_apart a b o ≡ true → is_end_in b o ≡ true
second_is_end a b None h = cc
second_is_end a b (Some j) h = second_named (j.a == a) (j.b == b) (j.a == b) (j.b == a) (pair_if a b j.collide (record { a = j.a; b = j.b }) h)

-- ---- the joints of one body

any_there : (a b : ℕ) (joints : List (Option BodyJoint)) (slot : ℕ) → keeps_apart a b (joint_at joints slot) ≡ true → list_any (keeps_apart a b) joints ≡ true
any_there a b [] slot h = cc
any_there a b (o ∷ joints) zero h = or_first (keeps_apart a b o) (list_any (keeps_apart a b) joints) h
any_there a b (o ∷ joints) (suc slot) h = or_second (keeps_apart a b o) (list_any (keeps_apart a b) joints) (any_there a b joints slot h)

-- what joints with some ends tell, some joint tells
any_of : (a b : ℕ) (joints : List (Option BodyJoint)) (ids : List ℕ) → one_keeps_apart joints a b ids ≡ true → list_any (keeps_apart a b) joints ≡ true
any_of a b joints [] h = cc
any_of a b joints (id ∷ ids) h = elim (one_of_two (keeps_apart a b (joint_at joints (id / 2))) (one_keeps_apart joints a b ids) h) [
  | inl here ↦ any_there a b joints (id / 2) here
  | inr rest ↦ any_of a b joints ids rest
]

record IsKeeping (a b : ℕ) (joints : List (Option BodyJoint)) : Type 0 where
  slot : ℕ
  keeps : keeps_apart a b (joint_at joints slot) ≡ true

keeping : (a b : ℕ) (joints : List (Option BodyJoint)) → list_any (keeps_apart a b) joints ≡ true → IsKeeping a b joints
keeping a b [] h = cc
keeping a b (o ∷ joints) h = elim (one_of_two (keeps_apart a b o) (list_any (keeps_apart a b) joints) h) [
  | inl here ↦ record { slot = 0; keeps = here }
  | inr rest ↦ let found : IsKeeping a b joints = keeping a b joints rest in record { slot = suc found.slot; keeps = found.keeps }
]

-- a joint whose slot is among those of the ends tells it
told_in : (a b : ℕ) (joints : List (Option BodyJoint)) (ids : List ℕ) (slot : ℕ) → IsIn slot (halves ids) → keeps_apart a b (joint_at joints slot) ≡ true → one_keeps_apart joints a b ids ≡ true
told_in a b joints [] slot h keeps = absurd h
told_in a b joints (id ∷ ids) slot h keeps = elim h [
  | inl e ↦ or_first (keeps_apart a b (joint_at joints (id / 2))) (one_keeps_apart joints a b ids) (ap (λ (k : ℕ). keeps_apart a b (joint_at joints k)) (sym e) ∙ keeps)
  | inr r ↦ or_second (keeps_apart a b (joint_at joints (id / 2))) (one_keeps_apart joints a b ids) (told_in a b joints ids slot r keeps)
]

-- where each joint that keeps the two apart is one of the body's, the body's joints tell it
told_by : (a b : ℕ) (joints : List (Option BodyJoint)) (sets : List (List ℕ)) (body : ℕ) → AreEnds joints sets → ((slot : ℕ) → keeps_apart a b (joint_at joints slot) ≡ true → is_end_in body (joint_at joints slot) ≡ true)
    → one_keeps_apart joints a b (list_at sets body) ≡ list_any (is_pair_of a b) (forbidden_pairs joints)
told_by a b joints sets body ends own =
    as_true (one_keeps_apart joints a b (list_at sets body)) (list_any (keeps_apart a b) joints) (any_of a b joints (list_at sets body)) (λ h.
    let found : IsKeeping a b joints = keeping a b joints h in
    told_in a b joints (list_at sets body) found.slot (in_from_contains (halves (list_at sets body)) found.slot (all_ends joints sets body found.slot ends (own found.slot found.keeps))) found.keeps)
    ∙ sym (any_joint a b joints)

pub first_tells : (joints : List (Option BodyJoint)) (sets : List (List ℕ)) (ids : List ℕ) (a b : ℕ) → AreEnds joints sets → ids ≡ list_at sets a → one_keeps_apart joints a b ids ≡ list_any (is_pair_of a b) (forbidden_pairs joints)
first_tells joints sets ids a b ends is = ap (one_keeps_apart joints a b) is ∙ told_by a b joints sets a ends (λ slot h. first_is_end a b (joint_at joints slot) h)

pub second_tells : (joints : List (Option BodyJoint)) (sets : List (List ℕ)) (ids : List ℕ) (a b : ℕ) → AreEnds joints sets → ids ≡ list_at sets b → one_keeps_apart joints a b ids ≡ list_any (is_pair_of a b) (forbidden_pairs joints)
second_tells joints sets ids a b ends is = ap (one_keeps_apart joints a b) is ∙ told_by a b joints sets b ends (λ slot h. second_is_end a b (joint_at joints slot) h)
