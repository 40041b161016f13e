-- A walk along the ids of a set, told one behind the other.
use Rattle.std.proofs.Common.{◌≡◌, ◌≢◌, ◌==◌, ℕ, zero, suc, ◌<◌, Bool, true, false, cond, List, [], ◌∷◌, ◌++◌, length, refl, ap, sym, subst, ◌∙◌, append_assoc, append-nil, arith, inl, inr, Option, Some, None}
use Rattle.std.specs.Prelude.{slice_get}
use Rattle.std.specs.List.{Contains}
use Rattle.std.proofs.lemmas.Bool.{cases_eq}
use Rattle.std.proofs.lemmas.List.Elements.{Contains-append_right}
use Rattle.packed_sets.specs.Once.{AreOnce}
use Rattle.packed_sets.proofs.ItemLaws.{equal_same, head_in}
use Rattle.packed_sets.proofs.ListLaws.{none_not_some, same_inside}

-- how many ids there are from one on
abbrev pub count_from : List ℕ → ℕ → ℕ
count_from [] id = 0
count_from (x ∷ ids) id = cond (x == id) (suc (length ids)) (count_from ids id)

-- how many are left of a walk that comes to this one next
abbrev pub count_left : List ℕ → Option ℕ → ℕ
count_left ids None = 0
count_left ids (Some id) = count_from ids id

-- these ids are passed, those are left, and the next one is the first of them
pub record IsWalk (ids : List ℕ) (next : Option ℕ) (passed left : List ℕ) : Type 0 where
  pub whole : ids ≡ passed ++ left
  pub at : next ≡ slice_get left 0

pub walk_begins : (ids : List ℕ) (next : Option ℕ) → next ≡ slice_get ids 0 → IsWalk ids next [] ids
walk_begins ids next at = record { whole = refl; at = at }

-- a walk that stands at an id
pub record IsAtId (ids : List ℕ) (id : ℕ) (passed left : List ℕ) : Type 0 where
  pub back : List ℕ
  pub is : left ≡ id ∷ back
  pub whole : ids ≡ passed ++ id ∷ back

pub walk_at : (ids : List ℕ) (next : Option ℕ) (id : ℕ) (passed left : List ℕ) → IsWalk ids next passed left → next ≡ Some id → IsAtId ids id passed left
walk_at ids next id passed left walk is = by left walk.whole (sym walk.at ∙ is)
  where
    by : (ls : List ℕ) → ids ≡ passed ++ ls → slice_get ls 0 ≡ Some id → IsAtId ids id passed ls
    by [] whole at = absurd (none_not_some id at)
    by (x ∷ ls) whole at =
        let same : x ≡ id = same_inside x id at in
        record { back = ls; is = ap (λ (k : ℕ). k ∷ ls) same; whole = whole ∙ ap (λ (k : ℕ). passed ++ k ∷ ls) same }

-- it goes on behind the id
pub walk_on : (ids : List ℕ) (id : ℕ) (passed left : List ℕ) (next : Option ℕ) → (at : IsAtId ids id passed left) → next ≡ slice_get at.back 0 → IsWalk ids next (passed ++ id ∷ []) at.back
walk_on ids id passed left next at e = record { whole = at.whole ∙ sym (append_assoc passed (id ∷ []) at.back); at = e }

-- and all are passed where none is next
pub walk_over : (ids : List ℕ) (next : Option ℕ) (passed left : List ℕ) → IsWalk ids next passed left → next ≡ None → ids ≡ passed
walk_over ids next passed left walk is = by left walk.whole (sym walk.at ∙ is)
  where
    by : (ls : List ℕ) → ids ≡ passed ++ ls → slice_get ls 0 ≡ None → ids ≡ passed
    by [] whole at = whole ∙ append-nil passed
    by (x ∷ ls) whole at = absurd (none_not_some x (sym at))

-- ---- fewer are left

count_here : (front back : List ℕ) (id : ℕ) → AreOnce (front ++ id ∷ back) → count_from (front ++ id ∷ back) id ≡ suc (length back)
count_here [] back id once = ap (λ (b : Bool). cond b (suc (length back)) (count_from back id)) (equal_same id)
count_here (f ∷ front) back id once =
    let off : f ≢ id = λ e. once.0 (subst (λ (k : ℕ). Contains (front ++ id ∷ back) k) (sym e) (Contains-append_right front (id ∷ back) id (head_in id back))) in
    ap (λ (b : Bool). cond b (suc (length (front ++ id ∷ back))) (count_from (front ++ id ∷ back) id)) (differ f id off) ∙ count_here front back id once.1
  where
    differ : (a b : ℕ) → a ≢ b → (a == b) ≡ false
    differ a b off = grind (arith, off)

pub walk_fewer : (ids : List ℕ) (id : ℕ) (passed left : List ℕ) (next : Option ℕ) → AreOnce ids → (at : IsAtId ids id passed left) → next ≡ slice_get at.back 0 → count_left ids next < count_from ids id
walk_fewer ids id passed left next once at e = by at.back at.whole e
  where
    here : (back : List ℕ) → ids ≡ passed ++ id ∷ back → count_from ids id ≡ suc (length back)
    here back whole = ap (λ (l : List ℕ). count_from l id) whole ∙ count_here passed back id (subst AreOnce whole once)

    by : (back : List ℕ) → ids ≡ passed ++ id ∷ back → next ≡ slice_get back 0 → count_left ids next < count_from ids id
    by [] whole is =
        let now : count_from ids id ≡ 1 = here [] whole in
        let then : count_left ids next ≡ 0 = ap (count_left ids) is in
        omega (arith, now, then)
    by (x ∷ back) whole is =
        let now : count_from ids id ≡ suc (suc (length back)) = here (x ∷ back) whole in
        let split : ids ≡ (passed ++ id ∷ []) ++ x ∷ back = whole ∙ sym (append_assoc passed (id ∷ []) (x ∷ back)) in
        let later : count_from ids x ≡ suc (length back) = ap (λ (l : List ℕ). count_from l x) split ∙ count_here (passed ++ id ∷ []) back x (subst AreOnce split once) in
        let then : count_left ids next ≡ suc (length back) = ap (count_left ids) is ∙ later in
        omega (arith, now, then)
