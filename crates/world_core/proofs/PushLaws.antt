-- Items that are added behind others, one for each number of a walk or a list where there is one.
use Rattle.std.proofs.Common.{◌≡◌, ℕ, ◌+◌, ◌<◌, ◌≤◌, ◌++◌, true, List, [], ◌∷◌, Option, Some, None, is_some, drop, length, refl, sym, ap, ◌∙◌, arith, subst, append_assoc}
use Rattle.std.specs.Prelude.{slice_get, map}
use Rattle.std.specs.List.{filter_map, cons_option}
use Rattle.std.specs.List.Sorted.{IsPermutation}
use Rattle.std.specs.Option.{option_to_list}
use Rattle.std.proofs.lemmas.Bool.{false≢true}
use Rattle.std.proofs.lemmas.List.{append-nil, drop_all, length-append}
use Rattle.std.proofs.lemmas.List.Elements.{filter_map-append}
use Rattle.std.proofs.lemmas.List.Sorted.{IsPermutation-append_left, IsPermutation-append_right, IsPermutation-trans, length_permutation}
use Rattle.packed_sets.proofs.WalkLaws.{IsAtId, IsWalk, walk_at, walk_begins, walk_on, walk_over}

-- ---- one item

some_long : {X : Type 0} (o : Option X) → is_some o ≡ true → length (option_to_list o) ≡ 1
some_long None h = absurd (false≢true h)
some_long (Some x) h = refl

pub front_item : {X : Type 0} (o : Option X) (xs : List X) → cons_option o xs ≡ option_to_list o ++ xs
front_item None xs = refl
front_item (Some x) xs = refl

-- those of the numbers that are left are the next one's, and the rest
pub left_is : {X : Type 0} (at : ℕ → Option X) (id : ℕ) (back left : List ℕ) → left ≡ id ∷ back → filter_map at left ≡ option_to_list (at id) ++ filter_map at back
left_is at id back left split = ap (filter_map at) split ∙ front_item (at id) (filter_map at back)

pub met_is : {X : Type 0} (at : ℕ → Option X) (met : List ℕ) (id : ℕ) → filter_map at (met ++ id ∷ []) ≡ filter_map at met ++ option_to_list (at id)
met_is {X} at met id = filter_map-append at met (id ∷ []) ∙ ap (λ (l : List X). filter_map at met ++ l) (front_item (at id) [] ∙ append-nil (option_to_list (at id)))

-- ---- a walk

-- the items of the numbers that were met were added, and there is room for those of the numbers that are left
pub record IsPushing {X : Type 0} (at : ℕ → Option X) (ids : List ℕ) (next : Option ℕ) (old now : List X) (capacity : ℕ) : Type 0 where
  pub met : List ℕ
  pub left : List ℕ
  pub walk : IsWalk ids next met left
  pub items : now ≡ old ++ filter_map at met
  pub room : length now + length (filter_map at left) ≤ capacity

pub pushing_first : {X : Type 0} (at : ℕ → Option X) (ids : List ℕ) (next : Option ℕ) (old : List X) (capacity : ℕ) → next ≡ slice_get ids 0 → length old + length (filter_map at ids) ≤ capacity → IsPushing at ids next old old capacity
pushing_first at ids next old capacity e room = record { met = []; left = ids; walk = walk_begins ids next e; items = sym (append-nil old); room = room }

pub pushing_room : {X : Type 0} (at : ℕ → Option X) (ids : List ℕ) (next : Option ℕ) (id : ℕ) (old now : List X) (capacity : ℕ) (item : Option X) → IsPushing at ids next old now capacity → next ≡ Some id → item ≡ at id → is_some item ≡ true → length now < capacity
pushing_room {X} at ids next id old now capacity item f e is there =
    let here = walk_at ids next id f.met f.left f.walk e in
    let size : length (filter_map at f.left) ≡ length (option_to_list item ++ filter_map at here.back) = ap (λ (l : List X). length l) (left_is at id here.back f.left here.is ∙ ap (λ (o : Option X). option_to_list o ++ filter_map at here.back) (sym is)) in
    let sum : length (option_to_list item ++ filter_map at here.back) ≡ length (option_to_list item) + length (filter_map at here.back) = length-append (option_to_list item) (filter_map at here.back) in
    let one : length (option_to_list item) ≡ 1 = some_long item there in
    let room = f.room in
    omega (arith, room, size, sum, one)

-- what comes behind a number
abbrev pub IsBehind : List ℕ → ℕ → Option ℕ → Type 0
IsBehind ids id later = (front back : List ℕ) → ids ≡ front ++ id ∷ back → later ≡ slice_get back 0

pub pushing_more : {X : Type 0} (at : ℕ → Option X) (ids : List ℕ) (next : Option ℕ) (id : ℕ) (later : Option ℕ) (old now new : List X) (capacity : ℕ) (item : Option X) → IsPushing at ids next old now capacity → next ≡ Some id → item ≡ at id → new ≡ now ++ option_to_list item → IsBehind ids id later → IsPushing at ids later old new capacity
pushing_more {X} at ids next id later old now new capacity item f e is added behind =
    let here = walk_at ids next id f.met f.left f.walk e in
    let own : new ≡ now ++ option_to_list (at id) = added ∙ ap (λ (o : Option X). now ++ option_to_list o) is in
    let size : length (filter_map at f.left) ≡ length (option_to_list (at id) ++ filter_map at here.back) = ap (λ (l : List X). length l) (left_is at id here.back f.left here.is) in
    let sum : length (option_to_list (at id) ++ filter_map at here.back) ≡ length (option_to_list (at id)) + length (filter_map at here.back) = length-append (option_to_list (at id)) (filter_map at here.back) in
    let long : length new ≡ length (now ++ option_to_list (at id)) = ap (λ (l : List X). length l) own in
    let more : length (now ++ option_to_list (at id)) ≡ length now + length (option_to_list (at id)) = length-append now (option_to_list (at id)) in
    let room = f.room in
    record {
      met = f.met ++ id ∷ [];
      left = here.back;
      walk = walk_on ids id f.met f.left later here (behind f.met here.back here.whole);
      items = own ∙ ap (λ (l : List X). l ++ option_to_list (at id)) f.items ∙ append_assoc old (filter_map at f.met) (option_to_list (at id)) ∙ ap (λ (l : List X). old ++ l) (sym (met_is at f.met id));
      room = omega (arith, room, size, sum, long, more);
    }

pub pushing_all : {X : Type 0} (at : ℕ → Option X) (ids : List ℕ) (next : Option ℕ) (old now : List X) (capacity : ℕ) → IsPushing at ids next old now capacity → next ≡ None → now ≡ old ++ filter_map at ids
pushing_all {X} at ids next old now capacity f none = f.items ∙ ap (λ (l : List ℕ). old ++ filter_map at l) (sym (walk_over ids next f.met f.left f.walk none))

-- ---- a list, of which the items from a place on are left

pub record IsAdding {X : Type 0} (at : ℕ → Option X) (left : List ℕ) (old all now : List X) (capacity : ℕ) : Type 0 where
  pub items : now ++ filter_map at left ≡ old ++ all
  pub room : length now + length (filter_map at left) ≤ capacity

pub adding_room : {X : Type 0} (at : ℕ → Option X) (id : ℕ) (left back : List ℕ) (old all now : List X) (capacity : ℕ) (item : Option X) → left ≡ id ∷ back → IsAdding at left old all now capacity → item ≡ at id → is_some item ≡ true → length now < capacity
adding_room {X} at id left back old all now capacity item split f is there =
    let size : length (filter_map at left) ≡ length (option_to_list item ++ filter_map at back) = ap (λ (l : List X). length l) (left_is at id back left split ∙ ap (λ (o : Option X). option_to_list o ++ filter_map at back) (sym is)) in
    let sum : length (option_to_list item ++ filter_map at back) ≡ length (option_to_list item) + length (filter_map at back) = length-append (option_to_list item) (filter_map at back) in
    let one : length (option_to_list item) ≡ 1 = some_long item there in
    let room = f.room in
    omega (arith, room, size, sum, one)

pub adding_more : {X : Type 0} (at : ℕ → Option X) (id : ℕ) (left back : List ℕ) (old all now new : List X) (capacity : ℕ) (item : Option X) → left ≡ id ∷ back → IsAdding at left old all now capacity → item ≡ at id → new ≡ now ++ option_to_list item → IsAdding at back old all new capacity
adding_more {X} at id left back old all now new capacity item split f is added =
    let front : filter_map at left ≡ option_to_list item ++ filter_map at back = left_is at id back left split ∙ ap (λ (o : Option X). option_to_list o ++ filter_map at back) (sym is) in
    let whole : new ++ filter_map at back ≡ now ++ filter_map at left = ap (λ (l : List X). l ++ filter_map at back) added ∙ append_assoc now (option_to_list item) (filter_map at back) ∙ ap (λ (l : List X). now ++ l) (sym front) in
    let a : length (new ++ filter_map at back) ≡ length (now ++ filter_map at left) = ap (λ (l : List X). length l) whole in
    let b : length (new ++ filter_map at back) ≡ length new + length (filter_map at back) = length-append new (filter_map at back) in
    let c : length (now ++ filter_map at left) ≡ length now + length (filter_map at left) = length-append now (filter_map at left) in
    let room = f.room in
    record { items = whole ∙ f.items; room = omega (arith, a, b, c, room) }

pub adding_all : {X : Type 0} (at : ℕ → Option X) (all : List ℕ) (place : ℕ) (old now : List X) (capacity : ℕ) → length all ≤ place → IsAdding at (drop place all) old (filter_map at all) now capacity → now ≡ old ++ filter_map at all
adding_all {X} at all place old now capacity le f = sym (append-nil now) ∙ ap (λ (l : List ℕ). now ++ filter_map at l) (sym (drop_all place all le)) ∙ f.items

-- those of numbers that are made of others
pub of_mapped : {X : Type 0} (at : ℕ → Option X) (f : ℕ → ℕ) (ids : List ℕ) → filter_map (λ id. at (f id)) ids ≡ filter_map at (map f ids)
of_mapped at f [] = refl
of_mapped {X} at f (id ∷ ids) = ap (λ (l : List X). cons_option (at (f id)) l) (of_mapped at f ids)

-- ---- some, and then others

-- what is told, as it was added exactly
pub told_by : {X : Type 0} (old all items new : List X) → IsPermutation all items → new ≡ old ++ items → IsPermutation (old ++ all) new
told_by {X} old all items new moved is = subst (λ (l : List X). IsPermutation (old ++ all) l) (sym is) (IsPermutation-append_right old all items moved)

pub room_by : {X : Type 0} (old all items : List X) (capacity : ℕ) → IsPermutation all items → length old + length all ≤ capacity → length old + length items ≤ capacity
room_by old all items capacity moved room = let same : length items ≡ length all = length_permutation all items moved in omega (arith, room, same)

-- two parts of all, one behind the other
pub both_told : {X : Type 0} (old mid new all first second : List X) → all ≡ first ++ second → IsPermutation (old ++ first) mid → IsPermutation (mid ++ second) new → IsPermutation (old ++ all) new
both_told {X} old mid new all first second parts one two =
    let whole : old ++ all ≡ (old ++ first) ++ second = ap (λ (l : List X). old ++ l) parts ∙ sym (append_assoc old first second) in
    subst (λ (l : List X). IsPermutation l new) (sym whole) (IsPermutation-trans ((old ++ first) ++ second) (mid ++ second) new (IsPermutation-append_left second (old ++ first) mid one) two)

pub first_room : {X : Type 0} (old all first second : List X) (capacity : ℕ) → all ≡ first ++ second → length old + length all ≤ capacity → length old + length first ≤ capacity
first_room {X} old all first second capacity parts room =
    let same : length all ≡ length (first ++ second) = ap (λ (l : List X). length l) parts in
    let sum : length (first ++ second) ≡ length first + length second = length-append first second in
    omega (arith, room, same, sum)

pub second_room : {X : Type 0} (old mid all first second : List X) (capacity now : ℕ) → all ≡ first ++ second → IsPermutation (old ++ first) mid → length old + length all ≤ capacity → capacity ≤ now → length mid + length second ≤ now
second_room {X} old mid all first second capacity now parts moved room more =
    let same : length all ≡ length (first ++ second) = ap (λ (l : List X). length l) parts in
    let sum : length (first ++ second) ≡ length first + length second = length-append first second in
    let long : length mid ≡ length (old ++ first) = length_permutation (old ++ first) mid moved in
    let also : length (old ++ first) ≡ length old + length first = length-append old first in
    omega (arith, room, same, sum, long, also, more)

-- ---- a walk that makes room as it goes

pub record IsListing {X : Type 0} (at : ℕ → Option X) (ids : List ℕ) (next : Option ℕ) (old now : List X) : Type 0 where
  pub met : List ℕ
  pub left : List ℕ
  pub walk : IsWalk ids next met left
  pub items : now ≡ old ++ filter_map at met

pub listing_first : {X : Type 0} (at : ℕ → Option X) (ids : List ℕ) (next : Option ℕ) (old : List X) → next ≡ slice_get ids 0 → IsListing at ids next old old
listing_first at ids next old e = record { met = []; left = ids; walk = walk_begins ids next e; items = sym (append-nil old) }

pub listing_more : {X : Type 0} (at : ℕ → Option X) (ids : List ℕ) (next : Option ℕ) (id : ℕ) (later : Option ℕ) (old now new : List X) (item : Option X) → IsListing at ids next old now → next ≡ Some id → item ≡ at id → new ≡ now ++ option_to_list item → IsBehind ids id later → IsListing at ids later old new
listing_more {X} at ids next id later old now new item f e is added behind =
    let here = walk_at ids next id f.met f.left f.walk e in
    record {
      met = f.met ++ id ∷ [];
      left = here.back;
      walk = walk_on ids id f.met f.left later here (behind f.met here.back here.whole);
      items = added ∙ ap (λ (o : Option X). now ++ option_to_list o) is ∙ ap (λ (l : List X). l ++ option_to_list (at id)) f.items ∙ append_assoc old (filter_map at f.met) (option_to_list (at id)) ∙ ap (λ (l : List X). old ++ l) (sym (met_is at f.met id));
    }

pub listing_all : {X : Type 0} (at : ℕ → Option X) (ids : List ℕ) (next : Option ℕ) (old now : List X) → IsListing at ids next old now → next ≡ None → now ≡ old ++ filter_map at ids
listing_all {X} at ids next old now f none = f.items ∙ ap (λ (l : List ℕ). old ++ filter_map at l) (sym (walk_over ids next f.met f.left f.walk none))

-- what two walks added, where all is what both add
pub both_pushed : {X : Type 0} (all old mid new first second : List X) → IsPermutation all (first ++ second) → mid ≡ old ++ first → new ≡ mid ++ second → IsPermutation (old ++ all) new
both_pushed {X} all old mid new first second moved is also = told_by old all (first ++ second) new moved (also ∙ ap (λ (l : List X). l ++ second) is ∙ append_assoc old first second)

pub room_of_first : {X : Type 0} (all old first second : List X) (capacity : ℕ) → IsPermutation all (first ++ second) → length old + length all ≤ capacity → length old + length first ≤ capacity
room_of_first all old first second capacity moved room =
    let same : length (first ++ second) ≡ length all = length_permutation all (first ++ second) moved in
    let sum : length (first ++ second) ≡ length first + length second = length-append first second in
    omega (arith, room, same, sum)

pub room_of_second : {X : Type 0} (all old mid first second : List X) (capacity now : ℕ) → IsPermutation all (first ++ second) → length old + length all ≤ capacity → mid ≡ old ++ first → capacity ≤ now → length mid + length second ≤ now
room_of_second {X} all old mid first second capacity now moved room is more =
    let same : length (first ++ second) ≡ length all = length_permutation all (first ++ second) moved in
    let sum : length (first ++ second) ≡ length first + length second = length-append first second in
    let long : length mid ≡ length (old ++ first) = ap (λ (l : List X). length l) is in
    let also : length (old ++ first) ≡ length old + length first = length-append old first in
    omega (arith, room, same, sum, long, also, more)
