-- The joints of one body, by the ids of their ends and by their slots.
use Rattle.std.proofs.Common.{◌≡◌, ◌≢◌, ℕ, zero, suc, ◌+◌, ◌*◌, ◌<◌, ◌≤◌, ◌==◌, ◌||◌, Bool, true, false, cond, List, [], ◌∷◌, length, drop, get_or, Option, Some, None, ◌⊎◌, inl, inr, slice_set, add-one, refl, sym, ap, ◌∙◌, subst, arith}
use Rattle.std.specs.Prelude.{◌/◌, ◌↔◌, count_by, option_map}
use Rattle.std.specs.List.{Contains}
use Rattle.std.specs.List.Sorted.{IsStrictlyIncreasing}
use Rattle.std.proofs.lemmas.Bool.{cases_lt}
use Rattle.std.proofs.lemmas.List.{drop_all, length-set}
use Rattle.std.proofs.lemmas.List.Sums.{sum_by-cons}
use Rattle.graph_colours.proofs.Cases.{not_true_then, true_or_false}
use Rattle.graph_colours.proofs.PlaceLemmas.{is_same, same_from}
use Rattle.contacts_base.proofs.Members.{Each, IsIn, contains_from_in, in_from_contains, in_new, in_passed}
use Rattle.contacts_base.proofs.MergeLaws.{drop_next}
use Rattle.contacts_base.proofs.Rising.{IsRising, rising_from_increasing, rising_passed, same_rising}
use Rattle.packed_sets.specs.Packs.{list_at}
use Rattle.packed_sets.specs.Once.{AreOnce}
use Rattle.plain_world.specs.declared.joint.BodyJoint.{BodyJoint}
use Rattle.plain_world.specs.Joints.{idle_if, idle_joints, is_end_in, is_joint_of, joint_at}
use Rattle.world_core_base.specs.JointEnds.{AreEnds, first_of, halves, second_of, stands_at}
use Rattle.world_core_base.specs.JointTables.{own_from, own_slots}
use Rattle.world_core_base.proofs.JointEndLaws.{in_from_times, item_at-other, item_at-same, times_from_in}

-- ---- ids and slots

half_even : (k : ℕ) → (2 * k) / 2 ≡ k
half_even k = omega arith

half_odd : (k : ℕ) → (2 * k + 1) / 2 ≡ k
half_odd k = omega arith

halved : (id : ℕ) → (id ≡ 2 * (id / 2)) ⊎ (id ≡ 2 * (id / 2) + 1)
halved id = elim (cases_lt (2 * (id / 2)) id) [
  | inl more ↦ inr (omega (arith, more))
  | inr less ↦ inl (omega (arith, less))
]

half_in : (id : ℕ) (ids : List ℕ) → IsIn id ids → IsIn (id / 2) (halves ids)
half_in id [] h = absurd h
half_in id (x ∷ ids) h = elim h [ inl e ↦ inl (ap (λ (n : ℕ). n / 2) e) | inr r ↦ inr (half_in id ids r) ]

in_half : (slot : ℕ) (ids : List ℕ) → IsIn slot (halves ids) → (IsIn (2 * slot) ids) ⊎ (IsIn (2 * slot + 1) ids)
in_half slot [] h = absurd h
in_half slot (x ∷ ids) h =
    elim h [
      | inl e ↦ elim (halved x) [
        | inl even ↦ inl (inl (ap (λ (n : ℕ). 2 * n) e ∙ sym even))
        | inr odd ↦ inr (inl (ap (λ (n : ℕ). 2 * n + 1) e ∙ sym odd))
      ]
      | inr r ↦ elim (in_half slot ids r) [ inl even ↦ inl (inr even) | inr odd ↦ inr (inr odd) ]
    ]

-- ---- whose an end is

stands_from : (body owner : ℕ) → 1 ≤ stands_at body (Some owner) → (owner == body) ≡ true
stands_from body owner h = by_test (owner == body) refl h
  where
    by_test : (t : Bool) → (owner == body) ≡ t → 1 ≤ cond t 1 0 → t ≡ true
    by_test true q h = refl
    by_test false q h = absurd (omega (arith, h))

first_own : (body : ℕ) (o : Option BodyJoint) → 1 ≤ stands_at body (first_of o) → is_end_in body o ≡ true
first_own body None h = absurd (omega (arith, h))
first_own body (Some j) h = rw (stands_from body j.a h) refl

second_own : (body : ℕ) (o : Option BodyJoint) → 1 ≤ stands_at body (second_of o) → is_end_in body o ≡ true
second_own body None h = absurd (omega (arith, h))
second_own body (Some j) h = rw (stands_from body j.b h) (or_second (j.a == body))
  where
    or_second : (t : Bool) → (t || true) ≡ true
    or_second true = refl
    or_second false = refl

one_of_both : (body : ℕ) (j : BodyJoint) (s t : Bool) → (j.a == body) ≡ s → (j.b == body) ≡ t → (s || t) ≡ true → (1 ≤ stands_at body (Some j.a)) ⊎ (1 ≤ stands_at body (Some j.b))
one_of_both body j true t p q h = inl (rw p (omega arith))
one_of_both body j false true p q h = inr (rw q (omega arith))
one_of_both body j false false p q h = cc

own_end : (body : ℕ) (o : Option BodyJoint) → is_end_in body o ≡ true → (1 ≤ stands_at body (first_of o)) ⊎ (1 ≤ stands_at body (second_of o))
own_end body None h = cc
own_end body (Some j) h = one_of_both body j (j.a == body) (j.b == body) refl refl h

-- the slots of the ids at a body are those of its joints
own_in_halves : (joints : List (Option BodyJoint)) (sets : List (List ℕ)) (body slot : ℕ) → AreEnds joints sets → is_end_in body (joint_at joints slot) ≡ true → IsIn slot (halves (list_at sets body))
own_in_halves joints sets body slot e own =
    elim (own_end body (joint_at joints slot) own) [
      | inl first ↦ subst (λ (n : ℕ). IsIn n (halves (list_at sets body))) (half_even slot) (half_in (2 * slot) (list_at sets body) (in_from_times (2 * slot) (list_at sets body) (rw (e.first body slot) first)))
      | inr second ↦ subst (λ (n : ℕ). IsIn n (halves (list_at sets body))) (half_odd slot) (half_in (2 * slot + 1) (list_at sets body) (in_from_times (2 * slot + 1) (list_at sets body) (rw (e.second body slot) second)))
    ]

halves_own : (joints : List (Option BodyJoint)) (sets : List (List ℕ)) (body slot : ℕ) → AreEnds joints sets → IsIn slot (halves (list_at sets body)) → is_end_in body (joint_at joints slot) ≡ true
halves_own joints sets body slot e h =
    elim (in_half slot (list_at sets body) h) [
      | inl even ↦ first_own body (joint_at joints slot) (rw (e.first body slot) at (times_from_in (2 * slot) (list_at sets body) even))
      | inr odd ↦ second_own body (joint_at joints slot) (rw (e.second body slot) at (times_from_in (2 * slot + 1) (list_at sets body) odd))
    ]

pub below_if : (body : ℕ) (joints : List (Option BodyJoint)) (slot : ℕ) → is_end_in body (joint_at joints slot) ≡ true → slot < length joints
below_if body [] slot h = cc
below_if body (o ∷ joints) zero h = omega arith
below_if body (o ∷ joints) (suc slot) h = let less : slot < length joints = below_if body joints slot h in omega (arith, less)

pub ends_below : (joints : List (Option BodyJoint)) (sets : List (List ℕ)) (body id : ℕ) → AreEnds joints sets → Contains (list_at sets body) id → id / 2 < length joints
ends_below joints sets body id e h = below_if body joints (id / 2) (halves_own joints sets body (id / 2) e (half_in id (list_at sets body) (in_from_contains (list_at sets body) id h)))

pub all_ends : (joints : List (Option BodyJoint)) (sets : List (List ℕ)) (body slot : ℕ) → AreEnds joints sets → is_end_in body (joint_at joints slot) ≡ true → Contains (halves (list_at sets body)) slot
all_ends joints sets body slot e own = contains_from_in (halves (list_at sets body)) slot (own_in_halves joints sets body slot e own)

pub only_ends : (joints : List (Option BodyJoint)) (sets : List (List ℕ)) (body slot : ℕ) → AreEnds joints sets → Contains (halves (list_at sets body)) slot → is_end_in body (joint_at joints slot) ≡ true
only_ends joints sets body slot e h = halves_own joints sets body slot e (in_from_contains (halves (list_at sets body)) slot h)

-- ---- their slots, ascending

above_passed : (b n : ℕ) (t : Bool) (ys : List ℕ) → b < n → Each (λ (y : ℕ). b < y) ys → Each (λ (y : ℕ). b < y) (cond t (n ∷ ys) ys)
above_passed b n true ys lt h = (lt, h)
above_passed b n false ys lt h = h

own_above : (body n b : ℕ) (joints : List (Option BodyJoint)) → b < n → Each (λ (y : ℕ). b < y) (own_from body n joints)
own_above body n b [] lt = tt
own_above body n b (o ∷ joints) lt = above_passed b n (is_end_in body o) (own_from body (suc n) joints) lt (own_above body (suc n) b joints (omega (arith, lt)))

own_rising : (body n : ℕ) (joints : List (Option BodyJoint)) → IsRising (own_from body n joints)
own_rising body n [] = tt
own_rising body n (o ∷ joints) = rising_passed n (is_end_in body o) (own_from body (suc n) joints) (own_above body (suc n) n joints (omega arith)) (own_rising body (suc n) joints)

in_own : (body n m k : ℕ) (joints : List (Option BodyJoint)) → k ≡ n + m → is_end_in body (joint_at joints m) ≡ true → IsIn k (own_from body n joints)
in_own body n m k [] at own = cc
in_own body n zero k (o ∷ joints) at own = in_new k n (is_end_in body o) (own_from body (suc n) joints) own (omega (arith, at))
in_own body n (suc m) k (o ∷ joints) at own = in_passed k n (is_end_in body o) (own_from body (suc n) joints) (in_own body (suc n) m k joints (omega (arith, at)) own)

-- a slot that is listed is that of one of its joints
record IsOwn (body n k : ℕ) (joints : List (Option BodyJoint)) : Type 0 where
  place : ℕ
  at : k ≡ n + place
  own : is_end_in body (joint_at joints place) ≡ true

own_later : (body n k : ℕ) (o : Option BodyJoint) (joints : List (Option BodyJoint)) → IsOwn body (suc n) k joints → IsOwn body n k (o ∷ joints)
own_later body n k o joints found = let at : k ≡ suc n + found.place = found.at in record { place = suc found.place; at = omega (arith, at); own = found.own }

own_either : (body n k : ℕ) (o : Option BodyJoint) (joints : List (Option BodyJoint)) (t : Bool) → is_end_in body o ≡ t → (IsIn k (own_from body (suc n) joints) → IsOwn body (suc n) k joints) → IsIn k (cond t (n ∷ own_from body (suc n) joints) (own_from body (suc n) joints)) → IsOwn body n k (o ∷ joints)
own_either body n k o joints true q later h = elim h [ inl e ↦ record { place = 0; at = omega (arith, e); own = q } | inr r ↦ own_later body n k o joints (later r) ]
own_either body n k o joints false q later h = own_later body n k o joints (later h)

own_listed : (body n k : ℕ) (joints : List (Option BodyJoint)) → IsIn k (own_from body n joints) → IsOwn body n k joints
own_listed body n k [] h = absurd h
own_listed body n k (o ∷ joints) h = own_either body n k o joints (is_end_in body o) refl (λ r. own_listed body (suc n) k joints r) h

own_there : (body k : ℕ) (joints : List (Option BodyJoint)) → IsOwn body 0 k joints → is_end_in body (joint_at joints k) ≡ true
own_there body k joints found =
    let at : k ≡ 0 + found.place = found.at in
    let same : k ≡ found.place = omega (arith, at) in
    ap (λ (m : ℕ). is_end_in body (joint_at joints m)) same ∙ found.own

pub own_slots_are : (joints : List (Option BodyJoint)) (sets : List (List ℕ)) (body : ℕ) (slots ids : List ℕ) → ids ≡ list_at sets body → AreEnds joints sets → IsStrictlyIncreasing slots → ((slot : ℕ) → Contains slots slot ↔ Contains (halves ids) slot) → slots ≡ own_slots body joints
unfolding own_slots
own_slots_are joints sets body slots ids is e rising same =
    same_rising slots (own_from body 0 joints) (rising_from_increasing slots rising) (own_rising body 0 joints)
    (λ k h. in_own body 0 k k joints (omega arith) (halves_own joints sets body k e (subst (λ (l : List ℕ). IsIn k (halves l)) is (in_from_contains (halves ids) k ((same k).0 (contains_from_in slots k h))))))
    (λ k h. in_from_contains slots k ((same k).1 (contains_from_in (halves ids) k (subst (λ (l : List ℕ). IsIn k (halves l)) (sym is) (own_in_halves joints sets body k e (own_there body k joints (own_listed body 0 k joints h)))))))

-- a slot is listed just if its joint has the body as an end
pub listed_end : (body slot : ℕ) (joints : List (Option BodyJoint)) (slots : List ℕ) → slots ≡ own_slots body joints → Contains slots slot → is_end_in body (joint_at joints slot) ≡ true
unfolding own_slots
listed_end body slot joints slots is h = own_there body slot joints (own_listed body 0 slot joints (subst (λ (l : List ℕ). IsIn slot l) is (in_from_contains slots slot h)))

pub end_listed : (body slot : ℕ) (joints : List (Option BodyJoint)) (slots : List ℕ) → slots ≡ own_slots body joints → is_end_in body (joint_at joints slot) ≡ true → Contains slots slot
unfolding own_slots
end_listed body slot joints slots is own = contains_from_in slots slot (subst (λ (l : List ℕ). IsIn slot l) (sym is) (in_own body 0 slot slot joints (omega arith) own))

-- ---- joints that lose their impulses, one after the other

idle_twice : (body : ℕ) (o : Option BodyJoint) → option_map (idle_if body) (option_map (idle_if body) o) ≡ option_map (idle_if body) o
idle_twice body None = refl
idle_twice body (Some j) = ap (λ (x : BodyJoint). Some x) (by_test (is_joint_of body j) refl)
  where
    by_test : (t : Bool) → is_joint_of body j ≡ t → idle_if body (idle_if body j) ≡ idle_if body j
    by_test true q = rw q (rw q refl)
    by_test false q = rw q (rw q refl)

idle_other : (body : ℕ) (o : Option BodyJoint) → is_end_in body o ≡ false → option_map (idle_if body) o ≡ o
idle_other body None h = refl
idle_other body (Some j) h = rw h refl

idle_same : (body : ℕ) (joints : List (Option BodyJoint)) (slot : ℕ) (d : Option BodyJoint) → slot < length joints → idle_joints body (slice_set joints slot (option_map (idle_if body) (get_or joints slot d))) ≡ idle_joints body joints
idle_same body [] slot d lt = absurd (omega (arith, lt))
idle_same body (o ∷ joints) zero d lt = ap (λ (x : Option BodyJoint). x ∷ idle_joints body joints) (idle_twice body o)
idle_same body (o ∷ joints) (suc slot) d lt = ap (λ (l : List (Option BodyJoint)). option_map (idle_if body) o ∷ l) (idle_same body joints slot d (omega (arith, lt)))

at_all : (body : ℕ) (joints : List (Option BodyJoint)) → ((slot : ℕ) → option_map (idle_if body) (joint_at joints slot) ≡ joint_at joints slot) → idle_joints body joints ≡ joints
at_all body [] h = refl
at_all body (o ∷ joints) h = λ i. h 0 i ∷ at_all body joints (λ slot. h (suc slot)) i

-- joints in slots that aren't listed have no impulse of the body's any more
abbrev pub AreIdleBeside : ℕ → List ℕ → List (Option BodyJoint) → Type 0
AreIdleBeside body slots joints = (slot : ℕ) → (IsIn slot slots → ⊥) → option_map (idle_if body) (joint_at joints slot) ≡ joint_at joints slot

pub record IsIdling (body : ℕ) (ids : List ℕ) (old now : List (Option BodyJoint)) (place : ℕ) : Type 0 where
  pub long : length now ≡ length old
  pub same : idle_joints body now ≡ idle_joints body old
  pub beside : AreIdleBeside body (halves (drop place ids)) now

pub idling_begun : (body : ℕ) (ids : List ℕ) (old : List (Option BodyJoint)) → ((slot : ℕ) → is_end_in body (joint_at old slot) ≡ true → Contains (halves ids) slot) → IsIdling body ids old old 0
idling_begun body ids old all = record {
  long = refl;
  same = refl;
  beside = λ slot out. idle_other body (joint_at old slot) (not_true_then (is_end_in body (joint_at old slot)) (λ own. out (in_from_contains (halves ids) slot (all slot own))));
}

pub idling_next : (body : ℕ) (ids : List ℕ) (old now next : List (Option BodyJoint)) (place id : ℕ) (d : Option BodyJoint) → place < length ids → id ≡ get_or ids place 0 → id / 2 < length now → next ≡ slice_set now (id / 2) (option_map (idle_if body) (get_or now (id / 2) d))
    → IsIdling body ids old now place → IsIdling body ids old next (place + 1)
idling_next body ids old now next place id d lt at below made is = rw made (record {
  long = length-set now (id / 2) (option_map (idle_if body) (get_or now (id / 2) d)) ∙ is.long;
  same = idle_same body now (id / 2) d below ∙ is.same;
  beside = beside;
})
  where
    beside : AreIdleBeside body (halves (drop (place + 1) ids)) (slice_set now (id / 2) (option_map (idle_if body) (get_or now (id / 2) d)))
    beside slot out = by_slot (slot == id / 2) refl
      where
        front : drop place ids ≡ id ∷ drop (place + 1) ids
        front = drop_next ids place 0 lt ∙ ap (λ (x : ℕ). x ∷ drop (suc place) ids) (sym at) ∙ ap (λ (n : ℕ). id ∷ drop n ids) (sym (add-one place))

        by_slot : (t : Bool) → (slot == id / 2) ≡ t → option_map (idle_if body) (joint_at (slice_set now (id / 2) (option_map (idle_if body) (get_or now (id / 2) d))) slot) ≡ joint_at (slice_set now (id / 2) (option_map (idle_if body) (get_or now (id / 2) d))) slot
        by_slot true q =
            let same : slot ≡ id / 2 = same_from slot (id / 2) q in
            rw (same, item_at-same now (id / 2) (option_map (idle_if body) (get_or now (id / 2) d)) below) (idle_twice body (get_or now (id / 2) d))
        by_slot false q =
            let apart : slot ≢ id / 2 = λ e. true_or_false (slot == id / 2) (is_same slot (id / 2) e) q in
            rw (item_at-other now (id / 2) (option_map (idle_if body) (get_or now (id / 2) d)) slot apart) (is.beside slot (λ h. elim (subst (λ (l : List ℕ). IsIn slot (halves l)) front h) [ inl e ↦ apart e | inr r ↦ out r ]))

pub idling_done : (body : ℕ) (ids : List ℕ) (old now : List (Option BodyJoint)) (place : ℕ) → length ids ≤ place → IsIdling body ids old now place → now ≡ idle_joints body old
idling_done body ids old now place past is = sym (at_all body now (λ slot. is.beside slot (λ h. subst (λ (l : List ℕ). IsIn slot (halves l)) (drop_all place ids past) h))) ∙ is.same

-- ---- the slots of a body's joints, each once

more_times : (n x : ℕ) (xs : List ℕ) → count_by (λ m. m == n) (x ∷ xs) ≡ cond (x == n) 1 0 + count_by (λ m. m == n) xs
more_times n x xs = sum_by-cons (λ m. cond (m == n) 1 0) x xs

-- of the two ends of each joint one at most is in the list
abbrev OneEnd : List ℕ → Type 0
OneEnd ids = (slot : ℕ) → count_by (λ m. m == 2 * slot) ids + count_by (λ m. m == 2 * slot + 1) ids ≤ 1

one_left : (x : ℕ) (ids : List ℕ) → OneEnd (x ∷ ids) → OneEnd ids
one_left x ids one slot =
    let even = more_times (2 * slot) x ids in
    let odd = more_times (2 * slot + 1) x ids in
    let few = one slot in
    omega (arith, even, odd, few)

abbrev unit_if : Bool → ℕ
unit_if t = cond t 1 0

once_in_halves : (ids : List ℕ) → OneEnd ids → AreOnce (halves ids)
once_in_halves [] one = tt
once_in_halves (x ∷ ids) one = (λ h. off (in_half (x / 2) ids (in_from_contains (halves ids) (x / 2) h)), once_in_halves ids (one_left x ids one))
  where
    few : count_by (λ m. m == 2 * (x / 2)) (x ∷ ids) + count_by (λ m. m == 2 * (x / 2) + 1) (x ∷ ids) ≤ 1
    few = one (x / 2)

    own : 1 ≤ cond (x == 2 * (x / 2)) 1 0 + cond (x == 2 * (x / 2) + 1) 1 0
    own = elim (halved x) [
      | inl e ↦ (let t : (x == 2 * (x / 2)) ≡ true = is_same x (2 * (x / 2)) e in let u = ap (λ (b : Bool). unit_if b) t in omega (arith, u))
      | inr e ↦ (let t : (x == 2 * (x / 2) + 1) ≡ true = is_same x (2 * (x / 2) + 1) e in let u = ap (λ (b : Bool). unit_if b) t in omega (arith, u))
    ]

    off : (IsIn (2 * (x / 2)) ids) ⊎ (IsIn (2 * (x / 2) + 1) ids) → ⊥
    off h =
        let even = more_times (2 * (x / 2)) x ids in
        let odd = more_times (2 * (x / 2) + 1) x ids in
        elim h [
          | inl k ↦ (let some : 1 ≤ count_by (λ m. m == 2 * (x / 2)) ids = times_from_in (2 * (x / 2)) ids k in omega (arith, few, own, even, odd, some))
          | inr k ↦ (let some : 1 ≤ count_by (λ m. m == 2 * (x / 2) + 1) ids = times_from_in (2 * (x / 2) + 1) ids k in omega (arith, few, own, even, odd, some))
        ]

one_of_two : (body : ℕ) (o : Option BodyJoint) → ((j : BodyJoint) → o ≡ Some j → j.a ≢ j.b) → stands_at body (first_of o) + stands_at body (second_of o) ≤ 1
one_of_two body None two = omega arith
one_of_two body (Some j) two = by (j.a == body) (j.b == body) refl refl
  where
    by : (t u : Bool) → (j.a == body) ≡ t → (j.b == body) ≡ u → cond t 1 0 + cond u 1 0 ≤ 1
    by true true e f = absurd (two j refl (same_from j.a body e ∙ sym (same_from j.b body f)))
    by true false e f = omega arith
    by false true e f = omega arith
    by false false e f = omega arith

-- the slots of the joints at a body, each once, where no joint has one body at both ends
pub once_ends : (joints : List (Option BodyJoint)) (sets : List (List ℕ)) (body : ℕ) → AreEnds joints sets → ((slot : ℕ) (j : BodyJoint) → joint_at joints slot ≡ Some j → j.a ≢ j.b) → AreOnce (halves (list_at sets body))
once_ends joints sets body e two = once_in_halves (list_at sets body) (λ slot.
    let first = e.first body slot in
    let second = e.second body slot in
    let few = one_of_two body (joint_at joints slot) (λ j at. two slot j at) in
    omega (arith, first, second, few))
