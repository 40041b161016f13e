-- Bodies that are carried along, from one to the next, and what stays when they move on.
use Rattle.std.proofs.Common.{◌≡◌, ℕ, zero, suc, ◌<◌, ◌≤◌, Bool, true, false, cond, not, List, [], ◌∷◌, ◌++◌, length, get_or, set, take, drop, map, None, Some, pos, unsigned_abs, int_eq, arith, refl, sym, ap, ◌∙◌, subst, inl, inr, slice_set, add-one}
use Rattle.std.proofs.lemmas.Bool.{cases_Bool}
use Rattle.std.proofs.lemmas.List.{get_or_default}
use Rattle.std.proofs.lemmas.List.Edits.{map_over_more}
use Rattle.std.proofs.lemmas.Option.{get_or_from_slice_get, slice_get_within, slice_get-get_or}
use Rattle.fixed_geom.specs.Vectors.{plus}
use Rattle.fixed_geom.specs.declared.limits.TheConstants.{MAX_SPIN}
use Rattle.momenta.specs.declared.limits.TheConstants.{MAX_SPEED}
use Rattle.momenta.specs.declared.state.BodyState.{BodyState}
use Rattle.momenta.specs.Motions.{advanced}
use Rattle.momenta.proofs.Courses.{advanced_within}
use Rattle.momenta.proofs.MotionLaws.{advanced_keeps}
use Rattle.colour_solver.specs.States.{AreSameBeside, AreSameStates, HasCourse, HaveCourses, carried_of, is_carried, movers_of, momentum_of, nobody, places_from, total}
use Rattle.colour_solver.specs.Passes.{carried_along, carry}
use Rattle.colour_solver.proofs.AwakeLaws.{movers_same_from}
use Rattle.colour_solver.proofs.PlaceLaws.{IsNext, IsReached, map_still, reached, reached_at_first, reached_first, reached_last, reached_more, reached_next, reached_there}

-- ---- one body

along_other : (s : BodyState) → is_carried s ≡ false → carried_along s ≡ s
along_other s h = rw h refl

along_carried : (s : BodyState) → is_carried s ≡ true → carried_along s ≡ record s { motion = advanced s.mass s.motion }
along_carried s h = rw h refl

fixed_if : (t u : Bool) → cond t false u ≡ true → t ≡ false
fixed_if true u h = absurd (cc h)
fixed_if false u h = refl

carried_fixed : (s : BodyState) → is_carried s ≡ true → s.movable ≡ false
carried_fixed s h = fixed_if s.movable (not (int_eq s.mass.inertia (pos 0))) h

-- whether the body is carried is told by what moves it and its mass
carried_as : (a b : BodyState) → b.movable ≡ a.movable → b.mass ≡ a.mass → is_carried b ≡ is_carried a
carried_as a b moves weighs = λ j. cond (moves j) false (not (int_eq (weighs j).inertia (pos 0)))

along_movable : (s : BodyState) → (carried_along s).movable ≡ s.movable
along_movable s = elim (cases_Bool (is_carried s)) [
  | inl h ↦ ap (λ (b : BodyState). b.movable) (along_carried s h)
  | inr h ↦ ap (λ (b : BodyState). b.movable) (along_other s h)
]

along_mass : (s : BodyState) → (carried_along s).mass ≡ s.mass
along_mass s = elim (cases_Bool (is_carried s)) [
  | inl h ↦ ap (λ (b : BodyState). b.mass) (along_carried s h)
  | inr h ↦ ap (λ (b : BodyState). b.mass) (along_other s h)
]

along_reciprocals : (s : BodyState) → (carried_along s).reciprocals ≡ s.reciprocals
along_reciprocals s = elim (cases_Bool (is_carried s)) [
  | inl h ↦ ap (λ (b : BodyState). b.reciprocals) (along_carried s h)
  | inr h ↦ ap (λ (b : BodyState). b.reciprocals) (along_other s h)
]

-- it keeps to the limits of a course
pub course_along : (s : BodyState) → (is_carried s ≡ true → HasCourse s) → is_carried (carried_along s) ≡ true → HasCourse (carried_along s)
course_along s has on1 =
    let was : is_carried s ≡ true = sym (carried_as s (carried_along s) (along_movable s) (along_mass s)) ∙ on1 in
    let h : HasCourse s = has was in
    subst HasCourse (sym (along_carried s was)) (record {
      mass = h.mass;
      velocity = advanced_within (unsigned_abs MAX_SPEED) s.mass s.motion h.velocity;
      spin = subst (λ l. unsigned_abs l ≤ unsigned_abs MAX_SPIN) (sym (advanced_keeps s.mass s.motion)) h.spin;
    })

-- ---- all bodies

pub course_at : (ss : List BodyState) (i : ℕ) (s d : BodyState) → HaveCourses ss → i < length ss → s ≡ get_or ss i d → is_carried s ≡ true → HasCourse s
course_at ss i s d all h e = all i s (slice_get-get_or ss i d h ∙ ap Some (sym e))

pub courses-set : (ss : List BodyState) (i : ℕ) (s : BodyState) → HaveCourses ss → (is_carried s ≡ true → HasCourse s) → HaveCourses (set ss i s)
courses-set [] i s all has k x e = all k x e
courses-set (a ∷ ss) zero s all has zero x e = let same : s ≡ x = cc e in subst (λ (b : BodyState). is_carried b ≡ true → HasCourse b) same has
courses-set (a ∷ ss) zero s all has (suc k) x e = all (suc k) x e
courses-set (a ∷ ss) (suc i) s all has zero x e = all zero x e
courses-set (a ∷ ss) (suc i) s all has (suc k) x e = courses-set ss i s (λ n y f. all (suc n) y f) has k x e

-- bodies that aren't carried have any course
pub courses_one : (s : BodyState) → is_carried s ≡ false → HaveCourses (s ∷ [])
courses_one s stands zero x e on1 = let same : s ≡ x = cc e in let wrong : true ≡ false = sym on1 ∙ ap is_carried (sym same) ∙ stands in cc wrong
courses_one s stands (suc k) x e on1 = let wrong : None ≡ Some x = e in cc wrong

pub courses-push : (ss : List BodyState) (s : BodyState) → HaveCourses ss → is_carried s ≡ false → HaveCourses (ss ++ s ∷ [])
courses-push [] s all stands k x e on1 = courses_one s stands k x e on1
courses-push (a ∷ ss) s all stands zero x e on1 = all zero x e on1
courses-push (a ∷ ss) s all stands (suc k) x e on1 = courses-push ss s (λ n y f. all (suc n) y f) stands k x e on1

pub courses-carry : (ss : List BodyState) → HaveCourses ss → HaveCourses (carry ss)
courses-carry [] all k x e = all k x e
courses-carry (a ∷ ss) all zero x e = let same : carried_along a ≡ x = cc e in subst (λ (b : BodyState). is_carried b ≡ true → HasCourse b) same (course_along a (all zero a refl))
courses-carry (a ∷ ss) all (suc k) x e = courses-carry ss (λ n y f. all (suc n) y f) k x e

-- what moves no immovable body leaves all courses
pub courses_same : (old new : List BodyState) → AreSameStates old new → HaveCourses old → HaveCourses new
courses_same old new same all slot s e on1 =
    let here : get_or new slot nobody ≡ s = get_or_from_slice_get new slot s nobody e in
    let rests : (get_or old slot nobody).movable ≡ false = sym (same.movable slot) ∙ ap (λ (b : BodyState). b.movable) here ∙ carried_fixed s on1 in
    let is : s ≡ get_or old slot nobody = sym here ∙ same.immovable slot rests in
    let within : slot < length old = let lt = slice_get_within new slot s e in let long = same.long in omega (arith, lt, long) in
    course_at old slot s nobody all within is on1

-- ---- what stays beside them

length-carry : (ss : List BodyState) → length (carry ss) ≡ length ss
length-carry [] = refl
length-carry (s ∷ ss) = ap suc (length-carry ss)

pub carried_long : (old new : List BodyState) → new ≡ carry old → length new ≡ length old
carried_long old new e = ap length e ∙ length-carry old

standing-carry : (ss : List BodyState) (slot : ℕ) → is_carried (get_or ss slot nobody) ≡ false → get_or (carry ss) slot nobody ≡ get_or ss slot nobody
standing-carry [] slot h = refl
standing-carry (s ∷ ss) zero h = along_other s h
standing-carry (s ∷ ss) (suc slot) h = standing-carry ss slot h

movable-carry : (ss : List BodyState) (slot : ℕ) → (get_or (carry ss) slot nobody).movable ≡ (get_or ss slot nobody).movable
movable-carry [] slot = refl
movable-carry (s ∷ ss) zero = along_movable s
movable-carry (s ∷ ss) (suc slot) = movable-carry ss slot

mass-carry : (ss : List BodyState) (slot : ℕ) → (get_or (carry ss) slot nobody).mass ≡ (get_or ss slot nobody).mass
mass-carry [] slot = refl
mass-carry (s ∷ ss) zero = along_mass s
mass-carry (s ∷ ss) (suc slot) = mass-carry ss slot

reciprocals-carry : (ss : List BodyState) (slot : ℕ) → (get_or (carry ss) slot nobody).reciprocals ≡ (get_or ss slot nobody).reciprocals
reciprocals-carry [] slot = refl
reciprocals-carry (s ∷ ss) zero = along_reciprocals s
reciprocals-carry (s ∷ ss) (suc slot) = reciprocals-carry ss slot

pub beside_same : (old new : List BodyState) → AreSameStates old new → AreSameBeside old new
beside_same old new same = record { long = same.long; standing = λ slot m c. same.immovable slot m; reciprocals = same.reciprocals; movable = same.movable; mass = same.mass }

pub beside_carry : (ss : List BodyState) → AreSameBeside ss (carry ss)
beside_carry ss = record { long = length-carry ss; standing = λ slot m c. standing-carry ss slot c; reciprocals = reciprocals-carry ss; movable = movable-carry ss; mass = mass-carry ss }

pub beside_on : (old now new : List BodyState) → AreSameBeside old now → AreSameBeside now new → AreSameBeside old new
beside_on old now new first more = record {
  long = more.long ∙ first.long;
  standing = λ slot m c. more.standing slot (first.movable slot ∙ m) (carried_as (get_or old slot nobody) (get_or now slot nobody) (first.movable slot) (first.mass slot) ∙ c) ∙ first.standing slot m c;
  reciprocals = λ slot. more.reciprocals slot ∙ first.reciprocals slot;
  movable = λ slot. more.movable slot ∙ first.movable slot;
  mass = λ slot. more.mass slot ∙ first.mass slot;
}

pub movers_beside : (old new : List BodyState) → AreSameBeside old new → movers_of new ≡ movers_of old
movers_beside old new same = movers_same_from old new 0 same.long same.movable

carried_same_from : (old new : List BodyState) (n : ℕ) → length new ≡ length old → ((slot : ℕ) → is_carried (get_or new slot nobody) ≡ is_carried (get_or old slot nobody)) → places_from is_carried n new ≡ places_from is_carried n old
carried_same_from [] [] n long same = refl
carried_same_from [] (b ∷ new) n long same = absurd (cc long)
carried_same_from (a ∷ old) [] n long same = absurd (cc long)
carried_same_from (a ∷ old) (b ∷ new) n long same =
    let rest = carried_same_from old new (suc n) (omega (arith, long)) (λ slot. same (suc slot)) in
    rw (same zero, rest) refl

pub carried_beside : (old new : List BodyState) → AreSameBeside old new → carried_of new ≡ carried_of old
carried_beside old new same = carried_same_from old new 0 same.long (λ slot. carried_as (get_or old slot nobody) (get_or new slot nobody) (same.movable slot) (same.mass slot))

-- ---- the movers' momentum

momentum_along : (s : BodyState) → momentum_of (carried_along s) ≡ momentum_of s
momentum_along s = elim (cases_Bool (is_carried s)) [
  | inl h ↦ (let t = along_movable s in let f = carried_fixed s h in rw (t, f) refl)
  | inr h ↦ ap momentum_of (along_other s h)
]

pub total-carry : (ss : List BodyState) → total (carry ss) ≡ total ss
total-carry [] = refl
total-carry (s ∷ ss) = λ j. plus (momentum_along s j) (total-carry ss j)

-- ---- the walk

-- once k of the slots were seen: all below the next one's are carried along
pub record HasCarried (all : List BodyState) (places : List ℕ) (k : ℕ) (now : List BodyState) : Type 0 where
  pub walk : IsReached is_carried all places k
  pub items : now ≡ map carried_along (take (reached places k all) all) ++ drop (reached places k all) all

pub carried_first : (all : List BodyState) (places : List ℕ) → places ≡ carried_of all → HasCarried all places 0 all
carried_first all places e =
    let m = reached places 0 all in
    let first : IsNext is_carried all 0 m 0 m = reached_first is_carried all places e in
    record {
      walk = reached_at_first is_carried all places e;
      items = sym (map_still carried_along all 0 m first.from (λ j s lo hi f. along_other s (first.others j s lo hi f)));
    }

length-so_far : (all : List BodyState) (i : ℕ) → length (map carried_along (take i all) ++ drop i all) ≡ length all
length-so_far [] zero = refl
length-so_far [] (suc i) = refl
length-so_far (s ∷ all) zero = refl
length-so_far (s ∷ all) (suc i) = ap suc (length-so_far all i)

-- the next slot is there
pub carried_there : (all : List BodyState) (places : List ℕ) (k slot : ℕ) (now : List BodyState) → HasCarried all places k now → k < length places → slot ≡ get_or places k 0 → slot < length now
carried_there all places k slot now known h at =
    let m = reached places k all in
    let e : slot ≡ m = at ∙ get_or_default places k 0 (length all) h in
    let here : m < length all = reached_there is_carried all places k h known.walk in
    let long : length now ≡ length all = ap length known.items ∙ length-so_far all m in
    omega (arith, e, here, long)

pub carried_more : (all : List BodyState) (places : List ℕ) (k slot : ℕ) (now : List BodyState) (o new : BodyState) → HasCarried all places k now → k < length places → slot ≡ get_or places k 0 → o ≡ get_or now slot o → new ≡ carried_along o
    → HasCarried all places (suc k) (slice_set now slot new)
carried_more all places k slot now o new known h at is makes =
    let m = reached places k all in
    let n = reached places (suc k) all in
    let e : slot ≡ m = at ∙ get_or_default places k 0 (length all) h in
    let here : m < length all = reached_there is_carried all places k h known.walk in
    let is_m : o ≡ get_or now m o = is ∙ ap (λ (i : ℕ). get_or now i o) e in
    let more : IsNext is_carried all (suc m) n (suc m) n = reached_next is_carried all places k h known.walk in
    let items : slice_set now m (carried_along o) ≡ map carried_along (take (suc m) all) ++ drop (suc m) all = rw add-one at (map_over_more carried_along all now m o here known.items is_m) in
    record {
      walk = reached_more is_carried all places k h known.walk;
      items = rw (e, makes) (items ∙ sym (map_still carried_along all (suc m) n more.from (λ j s lo hi f. along_other s (more.others j s lo hi f))));
    }

whole : (all : List BodyState) (i : ℕ) → length all ≤ i → (map carried_along (take i all) ++ drop i all) ≡ carry all
whole [] zero h = refl
whole [] (suc i) h = refl
whole (s ∷ all) zero h = absurd (omega arith)
whole (s ∷ all) (suc i) h = ap (λ (l : List BodyState). carried_along s ∷ l) (whole all i (omega (arith, h)))

pub carried_last : (all : List BodyState) (places : List ℕ) (k : ℕ) (now : List BodyState) → HasCarried all places k now → length places ≤ k → now ≡ carry all
carried_last all places k now known h =
    let ended = reached_last all places k h in
    known.items ∙ whole all (reached places k all) (omega (arith, ended))
