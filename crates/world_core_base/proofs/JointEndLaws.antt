-- The ends of joints by body, as ends are put in and taken out.
use Rattle.std.proofs.Common.{◌≡◌, ◌≢◌, ℕ, zero, suc, ◌+◌, ◌*◌, ◌<◌, ◌≤◌, ◌==◌, Bool, true, false, cond, List, [], ◌∷◌, ◌++◌, length, get_or, take, Option, Some, None, ◌⊎◌, inl, inr, slice_set, nat_lt, ltb-true, ltb-false, refl, sym, ap, ◌∙◌, subst, arith}
use Rattle.std.specs.Prelude.{IfSome, count_by, option_map}
use Rattle.std.specs.List.{Contains}
use Rattle.std.specs.List.Sorted.{IsPermutation}
use Rattle.std.proofs.lemmas.Bool.{cases_lt}
use Rattle.std.proofs.lemmas.List.Sums.{sum_by-cons}
use Rattle.std.proofs.lemmas.List.Sorted.{sum_by-IsPermutation, length_permutation}
use Rattle.graph_colours.proofs.Cases.{by_test, true_or_false}
use Rattle.graph_colours.proofs.PlaceLemmas.{is_same, not_same, same_from}
use Rattle.contacts_base.proofs.Members.{IsIn, contains_from_in, in_from_contains}
use Rattle.packed_sets.specs.Packs.{IsAbsent, IsPut, IsTaken, Packs, HaveAtLeast, capacity_at, list_at}
use Rattle.plain_world.specs.declared.joint.BodyJoint.{BodyJoint}
use Rattle.plain_world.specs.Joints.{joint_at}
use Rattle.plain_world.specs.Slots.{item_at, with_item}
use Rattle.world_core_base.specs.declared.joint_ends.Ends.{Ends}
use Rattle.world_core_base.specs.JointEnds.{AreEnds, AreNoted, HasRoomAt, IsSmall, ends_of, first_of, second_of, stands_at, times_in}

-- ---- one number among others

times-cons : (n x : ℕ) (xs : List ℕ) → count_by (λ m. m == n) (x ∷ xs) ≡ cond (x == n) 1 0 + count_by (λ m. m == n) xs
times-cons n x xs = sum_by-cons (λ m. cond (m == n) 1 0) x xs

times-permutation : (n : ℕ) (xs ys : List ℕ) → IsPermutation xs ys → count_by (λ m. m == n) ys ≡ count_by (λ m. m == n) xs
times-permutation n xs ys h = sum_by-IsPermutation (λ m. cond (m == n) 1 0) xs ys h

-- a number that is in the list stands in it, and the other way round
pub times_from_in : (n : ℕ) (xs : List ℕ) → IsIn n xs → 1 ≤ count_by (λ m. m == n) xs
times_from_in n [] h = absurd h
times_from_in n (x ∷ xs) h =
    elim h [
      | inl e ↦ rw (times-cons n x xs, is_same x n (sym e)) (omega arith)
      | inr r ↦ let more : 1 ≤ count_by (λ m. m == n) xs = times_from_in n xs r in rw (times-cons n x xs) (omega (arith, more))
    ]

head_or_rest : (n x k : ℕ) (t : Bool) → (x == n) ≡ t → 1 ≤ cond t 1 0 + k → (n ≡ x) ⊎ (1 ≤ k)
head_or_rest n x k true q h = inl (sym (same_from x n q))
head_or_rest n x k false q h = inr (omega (arith, h))

pub in_from_times : (n : ℕ) (xs : List ℕ) → 1 ≤ count_by (λ m. m == n) xs → IsIn n xs
in_from_times n [] h = absurd (omega (arith, h))
in_from_times n (x ∷ xs) h =
    elim (head_or_rest n x (count_by (λ m. m == n) xs) (x == n) refl (rw (times-cons n x xs) at h)) [
      | inl e ↦ inl e
      | inr r ↦ inr (in_from_times n xs r)
    ]

none_of : (n : ℕ) (xs : List ℕ) → (Contains xs n → ⊥) → count_by (λ m. m == n) xs ≡ 0
none_of n xs h =
    elim (cases_lt 0 (count_by (λ m. m == n) xs)) [
      | inl more ↦ absurd (h (contains_from_in xs n (in_from_times n xs (omega (arith, more)))))
      | inr less ↦ omega (arith, less)
    ]

absent_times : (sets : List (List ℕ)) (id : ℕ) → IsAbsent sets id → (body : ℕ) → times_in sets body id ≡ 0
absent_times sets id absent body = none_of id (list_at sets body) (absent body)

absent_from : (sets : List (List ℕ)) (id : ℕ) → ((body : ℕ) → times_in sets body id ≡ 0) → IsAbsent sets id
absent_from sets id none body h =
    let some : 1 ≤ times_in sets body id = times_from_in id (list_at sets body) (in_from_contains (list_at sets body) id h) in
    let all : times_in sets body id ≡ 0 = none body in
    omega (arith, some, all)

-- ---- numbers that are the same or not

far : (a b : ℕ) → (a == b) ≡ false → a ≢ b
far a b q e = true_or_false (a == b) (is_same a b e) q

even_apart : (a b : ℕ) → (a == b) ≡ false → (2 * a == 2 * b) ≡ false
even_apart a b q = not_same (2 * a) (2 * b) (λ e. far a b q (omega (arith, e)))

odd_apart : (a b : ℕ) → (a == b) ≡ false → (2 * a + 1 == 2 * b + 1) ≡ false
odd_apart a b q = not_same (2 * a + 1) (2 * b + 1) (λ e. far a b q (omega (arith, e)))

odd_even : (a b : ℕ) → (2 * a + 1 == 2 * b) ≡ false
odd_even a b = not_same (2 * a + 1) (2 * b) (λ e. omega (arith, e))

even_odd : (a b : ℕ) → (2 * a == 2 * b + 1) ≡ false
even_odd a b = not_same (2 * a) (2 * b + 1) (λ e. omega (arith, e))

swapped_test : (a b : ℕ) (t : Bool) → (a == b) ≡ t → (b == a) ≡ t
swapped_test a b true q = is_same b a (sym (same_from a b q))
swapped_test a b false q = not_same b a (λ e. far a b q (sym e))

-- ---- an id that is put in

put_times : (old new : List (List ℕ)) (set id : ℕ) → IsPut old new set id → (body n : ℕ) → times_in new body n ≡ cond (set == body) (cond (id == n) 1 0) 0 + times_in old body n
put_times old new set id put body n = by_set (set == body) refl
  where
    by_set : (t : Bool) → (set == body) ≡ t → times_in new body n ≡ cond t (cond (id == n) 1 0) 0 + times_in old body n
    by_set true q = subst (λ (b : ℕ). times_in new b n ≡ cond (id == n) 1 0 + times_in old b n) (same_from set body q) (sym (times-permutation n (list_at new set) (id ∷ list_at old set) put.more) ∙ times-cons n id (list_at old set))
    by_set false q =
        let same : times_in new body n ≡ times_in old body n = ap (λ (l : List ℕ). count_by (λ m. m == n) l) (put.others body (λ e. far set body q (sym e))) in
        omega (arith, same)

-- where it stands, if it stands nowhere else
put_alone : (old new : List (List ℕ)) (set id n : ℕ) (body : ℕ) → IsPut old new set id → (id == n) ≡ true → times_in old body n ≡ 0 → times_in new body n ≡ stands_at body (Some set)
put_alone old new set id n body put same none = rw (put_times old new set id put body n, same, none) (by_set (set == body))
  where
    by_set : (t : Bool) → cond t 1 0 + 0 ≡ cond t 1 0
    by_set true = refl
    by_set false = refl

put_beside : (old new : List (List ℕ)) (set id n : ℕ) (body : ℕ) → IsPut old new set id → (id == n) ≡ false → times_in new body n ≡ times_in old body n
put_beside old new set id n body put apart = rw (put_times old new set id put body n, apart) (by_set (set == body) (times_in old body n))
  where
    by_set : (t : Bool) (k : ℕ) → cond t 0 0 + k ≡ k
    by_set true k = omega arith
    by_set false k = omega arith

pub still_absent : (old new : List (List ℕ)) (set slot : ℕ) → IsPut old new set (2 * slot) → IsAbsent old (2 * slot + 1) → IsAbsent new (2 * slot + 1)
still_absent old new set slot put absent = absent_from new (2 * slot + 1) (λ body. put_beside old new set (2 * slot) (2 * slot + 1) body put (even_odd slot slot) ∙ absent_times old (2 * slot + 1) absent body)

pub noted : (old mid new : List (List ℕ)) (slot : ℕ) (e : Ends) → IsPut old mid e.a (2 * slot) → IsPut mid new e.b (2 * slot + 1) → IsAbsent old (2 * slot) → IsAbsent old (2 * slot + 1) → IsSmall e → AreNoted old new slot e
noted old mid new slot e one two first second small = record {
  first = λ body k. put_beside mid new e.b (2 * slot + 1) (2 * k) body two (odd_even slot k) ∙ even body k (k == slot) refl;
  second = λ body k. odd body k (k == slot) refl;
  small = small;
}
  where
    even : (body k : ℕ) (t : Bool) → (k == slot) ≡ t → times_in mid body (2 * k) ≡ cond t (stands_at body (Some e.a)) (times_in old body (2 * k))
    even body k true q =
        let same : k ≡ slot = same_from k slot q in
        put_alone old mid e.a (2 * slot) (2 * k) body one (is_same (2 * slot) (2 * k) (omega (arith, same))) (ap (λ (n : ℕ). times_in old body (2 * n)) same ∙ absent_times old (2 * slot) first body)
    even body k false q = put_beside old mid e.a (2 * slot) (2 * k) body one (even_apart slot k (swapped_test k slot false q))

    odd : (body k : ℕ) (t : Bool) → (k == slot) ≡ t → times_in new body (2 * k + 1) ≡ cond t (stands_at body (Some e.b)) (times_in old body (2 * k + 1))
    odd body k true q =
        let same : k ≡ slot = same_from k slot q in
        put_alone mid new e.b (2 * slot + 1) (2 * k + 1) body two (is_same (2 * slot + 1) (2 * k + 1) (omega (arith, same))) (put_beside old mid e.a (2 * slot) (2 * k + 1) body one (even_odd slot k) ∙ ap (λ (n : ℕ). times_in old body (2 * n + 1)) same ∙ absent_times old (2 * slot + 1) second body)
    odd body k false q = put_beside mid new e.b (2 * slot + 1) (2 * k + 1) body two (odd_apart slot k (swapped_test k slot false q)) ∙ put_beside old mid e.a (2 * slot) (2 * k + 1) body one (even_odd slot k)

-- ---- an id that is taken out

without : (old new : List (List ℕ)) (id : ℕ) (owner : Option ℕ) → ((body : ℕ) → times_in old body id ≡ stands_at body owner) → ((set : ℕ) → Contains (list_at old set) id → IsTaken old new set id) → (IsAbsent old id → new ≡ old)
    → (body n : ℕ) → times_in new body n ≡ cond (n == id) 0 (times_in old body n)
without old new id None once taken absent body n = ap (λ (l : List (List ℕ)). times_in l body n) (absent (absent_from old id once)) ∙ by_id (n == id) refl
  where
    by_id : (t : Bool) → (n == id) ≡ t → times_in old body n ≡ cond t 0 (times_in old body n)
    by_id true q = ap (times_in old body) (same_from n id q) ∙ once body
    by_id false q = refl
without old new id (Some owner) once taken absent body n = by_set (owner == body) refl (n == id) refl
  where
    one : times_in old owner id ≡ 1
    one = rw (once owner, is_same owner owner refl) refl

    out : IsTaken old new owner id
    out = taken owner (contains_from_in (list_at old owner) id (in_from_times id (list_at old owner) (omega (arith, one))))

    split : (k : ℕ) → times_in old owner k ≡ cond (id == k) 1 0 + times_in new owner k
    split k = sym (times-permutation k (list_at old owner) (id ∷ list_at new owner) out.less) ∙ times-cons k id (list_at new owner)

    gone : times_in new owner id ≡ 0
    gone = let e : times_in old owner id ≡ 1 + times_in new owner id = split id ∙ ap (λ (t : Bool). cond t 1 0 + times_in new owner id) (is_same id id refl) in omega (arith, e, one)

    here : (t : Bool) → (n == id) ≡ t → times_in new owner n ≡ cond t 0 (times_in old owner n)
    here true q = ap (times_in new owner) (same_from n id q) ∙ gone
    here false q = let e : times_in old owner n ≡ 0 + times_in new owner n = split n ∙ ap (λ (t : Bool). cond t 1 0 + times_in new owner n) (swapped_test n id false q) in omega (arith, e)

    there : (owner == body) ≡ false → (t : Bool) → (n == id) ≡ t → times_in new body n ≡ cond t 0 (times_in old body n)
    there p true q = ap (λ (l : List ℕ). count_by (λ m. m == n) l) (out.others body (λ e. far owner body p (sym e))) ∙ ap (times_in old body) (same_from n id q) ∙ once body ∙ ap (λ (t : Bool). cond t 1 0) p
    there p false q = ap (λ (l : List ℕ). count_by (λ m. m == n) l) (out.others body (λ e. far owner body p (sym e)))

    by_set : (s : Bool) → (owner == body) ≡ s → (t : Bool) → (n == id) ≡ t → times_in new body n ≡ cond (n == id) 0 (times_in old body n)
    by_set true p t q = subst (λ (b : ℕ). times_in new b n ≡ cond (n == id) 0 (times_in old b n)) (same_from owner body p) (here (n == id) refl)
    by_set false p t q = there p (n == id) refl

-- ---- joints by slot

pub item_at-other : {X : Type 0} (items : List (Option X)) (slot : ℕ) (o : Option X) (k : ℕ) → k ≢ slot → item_at (slice_set items slot o) k ≡ item_at items k
item_at-other [] slot o k ne = refl
item_at-other (a ∷ xs) zero o zero ne = absurd (ne refl)
item_at-other (a ∷ xs) zero o (suc k) ne = refl
item_at-other (a ∷ xs) (suc slot) o zero ne = refl
item_at-other (a ∷ xs) (suc slot) o (suc k) ne = item_at-other xs slot o k (λ e. ne (ap suc e))

pub item_at-same : {X : Type 0} (items : List (Option X)) (slot : ℕ) (o : Option X) → slot < length items → item_at (slice_set items slot o) slot ≡ o
item_at-same [] slot o lt = absurd (omega (arith, lt))
item_at-same (a ∷ xs) zero o lt = refl
item_at-same (a ∷ xs) (suc slot) o lt = item_at-same xs slot o (omega (arith, lt))

pub item_at-end : {X : Type 0} (items : List (Option X)) (slot : ℕ) (o : Option X) → slot ≡ length items → item_at (items ++ o ∷ []) slot ≡ o
item_at-end [] zero o e = refl
item_at-end [] (suc slot) o e = absurd (omega (arith, e))
item_at-end (a ∷ xs) zero o e = absurd (omega (arith, e))
item_at-end (a ∷ xs) (suc slot) o e = item_at-end xs slot o (omega (arith, e))

pub item_at-before : {X : Type 0} (items : List (Option X)) (k : ℕ) (o : Option X) → k ≢ length items → item_at (items ++ o ∷ []) k ≡ item_at items k
item_at-before [] zero o ne = absurd (ne refl)
item_at-before [] (suc k) o ne = refl
item_at-before (a ∷ xs) zero o ne = refl
item_at-before (a ∷ xs) (suc k) o ne = item_at-before xs k o (λ e. ne (ap suc e))

with_here : (joints : List (Option BodyJoint)) (slot : ℕ) (j : BodyJoint) → slot ≤ length joints → joint_at (with_item joints slot j) slot ≡ Some j
with_here joints slot j le = by_test (λ (l : List (Option BodyJoint)). joint_at l slot ≡ Some j) (nat_lt slot (length joints)) (slice_set joints slot (Some j)) (joints ++ Some j ∷ [])
    (λ q. item_at-same joints slot (Some j) (ltb-true slot (length joints) q))
    (λ q. item_at-end joints slot (Some j) (ended q))
  where
    ended : nat_lt slot (length joints) ≡ false → slot ≡ length joints
    ended q = let past : length joints ≤ slot = ltb-false slot (length joints) q in omega (arith, past, le)

with_other : (joints : List (Option BodyJoint)) (slot : ℕ) (j : BodyJoint) (k : ℕ) → slot ≤ length joints → k ≢ slot → joint_at (with_item joints slot j) k ≡ joint_at joints k
with_other joints slot j k le ne = by_test (λ (l : List (Option BodyJoint)). joint_at l k ≡ joint_at joints k) (nat_lt slot (length joints)) (slice_set joints slot (Some j)) (joints ++ Some j ∷ [])
    (λ q. item_at-other joints slot (Some j) k ne)
    (λ q. item_at-before joints k (Some j) (λ e. ne (e ∙ sym (ended q))))
  where
    ended : nat_lt slot (length joints) ≡ false → slot ≡ length joints
    ended q = let past : length joints ≤ slot = ltb-false slot (length joints) q in omega (arith, past, le)

-- ---- the ends of all joints

-- what a change of joints leaves of their ends
pub ends_stay : (joints next : List (Option BodyJoint)) (sets : List (List ℕ)) → ((k : ℕ) → option_map ends_of (joint_at next k) ≡ option_map ends_of (joint_at joints k)) → AreEnds joints sets → AreEnds next sets
ends_stay joints next sets same e = record {
  first = λ body slot. e.first body slot ∙ ap (stands_at body) (first_is (joint_at joints slot) ∙ ap (option_map (λ (x : Ends). x.a)) (sym (same slot)) ∙ sym (first_is (joint_at next slot)));
  second = λ body slot. e.second body slot ∙ ap (stands_at body) (second_is (joint_at joints slot) ∙ ap (option_map (λ (x : Ends). x.b)) (sym (same slot)) ∙ sym (second_is (joint_at next slot)));
  small = λ slot. subst (λ (o : Option Ends). IfSome o IsSmall) (sym (same slot)) (e.small slot);
}
  where
    first_is : (o : Option BodyJoint) → first_of o ≡ option_map (λ (x : Ends). x.a) (option_map ends_of o)
    first_is None = refl
    first_is (Some j) = refl

    second_is : (o : Option BodyJoint) → second_of o ≡ option_map (λ (x : Ends). x.b) (option_map ends_of o)
    second_is None = refl
    second_is (Some j) = refl

-- the sets may be more, if all have what they had
pub ends_in_same : (joints : List (Option BodyJoint)) (old new : List (List ℕ)) → ((set : ℕ) → list_at new set ≡ list_at old set) → AreEnds joints old → AreEnds joints new
ends_in_same joints old new same e = record {
  first = λ body slot. ap (λ (l : List ℕ). count_by (λ m. m == 2 * slot) l) (same body) ∙ e.first body slot;
  second = λ body slot. ap (λ (l : List ℕ). count_by (λ m. m == 2 * slot + 1) l) (same body) ∙ e.second body slot;
  small = e.small;
}

pub absent_in_same : (old new : List (List ℕ)) (id : ℕ) → ((set : ℕ) → list_at new set ≡ list_at old set) → IsAbsent old id → IsAbsent new id
absent_in_same old new id same absent set h = absent set (subst (λ (l : List ℕ). Contains l id) (same set) h)

-- the ends of no joint
pub first_absent : (joints : List (Option BodyJoint)) (sets : List (List ℕ)) (slot : ℕ) → AreEnds joints sets → joint_at joints slot ≡ None → IsAbsent sets (2 * slot)
first_absent joints sets slot e free = absent_from sets (2 * slot) (λ body. e.first body slot ∙ ap (λ o. stands_at body (first_of o)) free)

pub second_absent : (joints : List (Option BodyJoint)) (sets : List (List ℕ)) (slot : ℕ) → AreEnds joints sets → joint_at joints slot ≡ None → IsAbsent sets (2 * slot + 1)
second_absent joints sets slot e free = absent_from sets (2 * slot + 1) (λ body. e.second body slot ∙ ap (λ o. stands_at body (second_of o)) free)

-- a joint's ends were put in
pub ends_more : (joints next : List (Option BodyJoint)) (old new : List (List ℕ)) (slot : ℕ) (j : BodyJoint) → AreEnds joints old → AreNoted old new slot (ends_of j) → joint_at next slot ≡ Some j → ((k : ℕ) → k ≢ slot → joint_at next k ≡ joint_at joints k) → AreEnds next new
ends_more joints next old new slot j e noted here others = record {
  first = λ body k. noted.first body k ∙ even body k (k == slot) refl;
  second = λ body k. noted.second body k ∙ odd body k (k == slot) refl;
  small = λ k. small_at k (k == slot) refl;
}
  where
    small_at : (k : ℕ) (t : Bool) → (k == slot) ≡ t → IfSome (option_map ends_of (joint_at next k)) IsSmall
    small_at k true q = subst (λ (o : Option BodyJoint). IfSome (option_map ends_of o) IsSmall) (sym (ap (joint_at next) (same_from k slot q) ∙ here)) noted.small
    small_at k false q = subst (λ (o : Option BodyJoint). IfSome (option_map ends_of o) IsSmall) (sym (others k (far k slot q))) (e.small k)

    even : (body k : ℕ) (t : Bool) → (k == slot) ≡ t → cond t (stands_at body (Some j.a)) (times_in old body (2 * k)) ≡ stands_at body (first_of (joint_at next k))
    even body k true q = ap (λ o. stands_at body (first_of o)) (sym (ap (joint_at next) (same_from k slot q) ∙ here))
    even body k false q = e.first body k ∙ ap (λ o. stands_at body (first_of o)) (sym (others k (far k slot q)))

    odd : (body k : ℕ) (t : Bool) → (k == slot) ≡ t → cond t (stands_at body (Some j.b)) (times_in old body (2 * k + 1)) ≡ stands_at body (second_of (joint_at next k))
    odd body k true q = ap (λ o. stands_at body (second_of o)) (sym (ap (joint_at next) (same_from k slot q) ∙ here))
    odd body k false q = e.second body k ∙ ap (λ o. stands_at body (second_of o)) (sym (others k (far k slot q)))

pub ends_put : (joints : List (Option BodyJoint)) (old new : List (List ℕ)) (slot : ℕ) (j : BodyJoint) → slot ≤ length joints → AreEnds joints old → AreNoted old new slot (ends_of j) → AreEnds (with_item joints slot j) new
ends_put joints old new slot j le e noted = ends_more joints (with_item joints slot j) old new slot j e noted (with_here joints slot j le) (λ k ne. with_other joints slot j k le ne)

-- a slot's ends were taken out
pub ends_dropped : (joints : List (Option BodyJoint)) (old mid new : List (List ℕ)) (slot : ℕ) → slot < length joints → AreEnds joints old
    → ((set : ℕ) → Contains (list_at old set) (2 * slot) → IsTaken old mid set (2 * slot)) → (IsAbsent old (2 * slot) → mid ≡ old)
    → ((set : ℕ) → Contains (list_at mid set) (2 * slot + 1) → IsTaken mid new set (2 * slot + 1)) → (IsAbsent mid (2 * slot + 1) → new ≡ mid)
    → AreEnds (slice_set joints slot None) new
ends_dropped joints old mid new slot lt e taken_first absent_first taken_second absent_second = record {
  first = λ body k. out_second body (2 * k) ∙ ap (λ (t : Bool). cond t 0 (times_in mid body (2 * k))) (even_odd k slot) ∙ out_first body (2 * k) ∙ even body k (k == slot) refl;
  second = λ body k. out_second body (2 * k + 1) ∙ odd body k (k == slot) refl;
  small = λ k. small_at k (k == slot) refl;
}
  where
    small_at : (k : ℕ) (t : Bool) → (k == slot) ≡ t → IfSome (option_map ends_of (joint_at (slice_set joints slot None) k)) IsSmall
    small_at k true q = subst (λ (o : Option BodyJoint). IfSome (option_map ends_of o) IsSmall) (sym (ap (joint_at (slice_set joints slot None)) (same_from k slot q) ∙ item_at-same joints slot None lt)) tt
    small_at k false q = subst (λ (o : Option BodyJoint). IfSome (option_map ends_of o) IsSmall) (sym (item_at-other joints slot None k (far k slot q))) (e.small k)

    out_first : (body n : ℕ) → times_in mid body n ≡ cond (n == 2 * slot) 0 (times_in old body n)
    out_first = without old mid (2 * slot) (first_of (joint_at joints slot)) (λ body. e.first body slot) taken_first absent_first

    kept : (body k : ℕ) → times_in mid body (2 * k + 1) ≡ times_in old body (2 * k + 1)
    kept body k = out_first body (2 * k + 1) ∙ ap (λ (t : Bool). cond t 0 (times_in old body (2 * k + 1))) (odd_even k slot)

    out_second : (body n : ℕ) → times_in new body n ≡ cond (n == 2 * slot + 1) 0 (times_in mid body n)
    out_second = without mid new (2 * slot + 1) (second_of (joint_at joints slot)) (λ body. kept body slot ∙ e.second body slot) taken_second absent_second

    even : (body k : ℕ) (t : Bool) → (k == slot) ≡ t → cond (2 * k == 2 * slot) 0 (times_in old body (2 * k)) ≡ stands_at body (first_of (joint_at (slice_set joints slot None) k))
    even body k true q =
        let same : k ≡ slot = same_from k slot q in
        ap (λ (t : Bool). cond t 0 (times_in old body (2 * k))) (is_same (2 * k) (2 * slot) (ap (λ (n : ℕ). 2 * n) same)) ∙ ap (λ o. stands_at body (first_of o)) (sym (ap (joint_at (slice_set joints slot None)) same ∙ item_at-same joints slot None lt))
    even body k false q =
        ap (λ (t : Bool). cond t 0 (times_in old body (2 * k))) (even_apart k slot q) ∙ e.first body k ∙ ap (λ o. stands_at body (first_of o)) (sym (item_at-other joints slot None k (far k slot q)))

    odd : (body k : ℕ) (t : Bool) → (k == slot) ≡ t → cond (2 * k + 1 == 2 * slot + 1) 0 (times_in mid body (2 * k + 1)) ≡ stands_at body (second_of (joint_at (slice_set joints slot None) k))
    odd body k true q =
        let same : k ≡ slot = same_from k slot q in
        ap (λ (t : Bool). cond t 0 (times_in mid body (2 * k + 1))) (is_same (2 * k + 1) (2 * slot + 1) (ap (λ (n : ℕ). 2 * n + 1) same)) ∙ ap (λ o. stands_at body (second_of o)) (sym (ap (joint_at (slice_set joints slot None)) same ∙ item_at-same joints slot None lt))
    odd body k false q =
        ap (λ (t : Bool). cond t 0 (times_in mid body (2 * k + 1))) (odd_apart k slot q) ∙ kept body k ∙ e.second body k ∙ ap (λ o. stands_at body (second_of o)) (sym (item_at-other joints slot None k (far k slot q)))

-- ---- the first joints of a list

pub at_slot : (joints : List (Option BodyJoint)) (slot : ℕ) (d : Option BodyJoint) → slot < length joints → get_or joints slot d ≡ joint_at joints slot
at_slot [] slot d lt = absurd (omega (arith, lt))
at_slot (o ∷ joints) zero d lt = refl
at_slot (o ∷ joints) (suc slot) d lt = at_slot joints slot d (omega (arith, lt))

pub take_here : {X : Type 0} (items : List (Option X)) (i : ℕ) → item_at (take i items) i ≡ None
take_here [] zero = refl
take_here [] (suc i) = refl
take_here (a ∷ xs) zero = refl
take_here (a ∷ xs) (suc i) = take_here xs i

pub take_next : {X : Type 0} (items : List (Option X)) (i : ℕ) → item_at (take (suc i) items) i ≡ item_at items i
take_next [] i = refl
take_next (a ∷ xs) zero = refl
take_next (a ∷ xs) (suc i) = take_next xs i

pub take_other : {X : Type 0} (items : List (Option X)) (i k : ℕ) → k ≢ i → item_at (take (suc i) items) k ≡ item_at (take i items) k
take_other [] zero k ne = refl
take_other [] (suc i) k ne = refl
take_other (a ∷ xs) zero zero ne = absurd (ne refl)
take_other (a ∷ xs) zero (suc k) ne = refl
take_other (a ∷ xs) (suc i) zero ne = refl
take_other (a ∷ xs) (suc i) (suc k) ne = take_other xs i k (λ e. ne (ap suc e))

-- ---- room

pub room_left : (body set id : ℕ) (old new : Packs ℕ) → IsPut old.sets new.sets set id → HaveAtLeast old.capacities new.capacities → HasRoomAt body old → length (list_at new.sets body) < capacity_at new.capacities body
room_left body set id old new put least room = by_set (set == body) refl
  where
    space : length (list_at old.sets body) + 2 ≤ capacity_at old.capacities body
    space = room.space

    at_least : capacity_at old.capacities body ≤ capacity_at new.capacities body
    at_least = least body

    by_set : (t : Bool) → (set == body) ≡ t → length (list_at new.sets body) < capacity_at new.capacities body
    by_set true q =
        let long : length (id ∷ list_at old.sets set) ≡ length (list_at new.sets set) = length_permutation (list_at new.sets set) (id ∷ list_at old.sets set) put.more in
        let here : suc (length (list_at old.sets body)) ≡ length (list_at new.sets body) = subst (λ (b : ℕ). suc (length (list_at old.sets b)) ≡ length (list_at new.sets b)) (same_from set body q) long in
        omega (arith, here, space, at_least)
    by_set false q = rw (put.others body (λ e. far set body q (sym e))) (omega (arith, space, at_least))
