-- Constraints that are added one after the other where they pass a test.
use Rattle.std.proofs.Common.{◌≡◌, ℕ, suc, ◌+◌, ◌<◌, ◌≤◌, ◌++◌, Bool, true, false, cond, List, [], ◌∷◌, Option, Some, None, is_some, drop, get_or, length, refl, sym, ap, ◌∙◌, arith, subst, append_assoc}
use Rattle.std.specs.Prelude.{filter}
use Rattle.std.specs.List.Sorted.{IsPermutation}
use Rattle.std.specs.Option.{option_to_list}
use Rattle.std.proofs.lemmas.Bool.{false≢true}
use Rattle.std.proofs.lemmas.List.{append-nil, drop_all, length-append}
use Rattle.std.proofs.lemmas.List.Sorted.{IsPermutation-refl}

-- those that were added, and those that are left
pub record ArePicked {X : Type 0} (p : X → Bool) (left old all now : List X) (capacity : ℕ) : Type 0 where
  pub items : now ++ filter p left ≡ old ++ all
  pub room : length now + length (filter p left) ≤ capacity

picked_by : {X : Type 0} (x : X) (t : Bool) (ps : List X) → cond t (x ∷ ps) ps ≡ option_to_list (cond t (Some x) None) ++ ps
picked_by x true ps = refl
picked_by x false ps = refl

front_is : {X : Type 0} (p : X → Bool) (x : X) (rest : List X) (item : Option X) → item ≡ cond (p x) (Some x) None → filter p (x ∷ rest) ≡ option_to_list item ++ filter p rest
front_is {X} p x rest item e = picked_by x (p x) (filter p rest) ∙ ap (λ (o : Option X). option_to_list o ++ filter p rest) (sym e)

some_long : {X : Type 0} (o : Option X) → is_some o ≡ true → length (option_to_list o) ≡ 1
some_long None h = absurd (false≢true h)
some_long (Some x) h = refl

-- there is room for one that is added
pub picked_room : {X : Type 0} (p : X → Bool) (x : X) (left rest old all now : List X) (capacity : ℕ) (item : Option X) → left ≡ x ∷ rest → ArePicked p left old all now capacity → item ≡ cond (p x) (Some x) None → is_some item ≡ true → length now < capacity
picked_room {X} p x left rest old all now capacity item split h e there =
    let front : filter p left ≡ option_to_list item ++ filter p rest = ap (λ (l : List X). filter p l) split ∙ front_is p x rest item e in
    let size : length (filter p left) ≡ length (option_to_list item ++ filter p rest) = ap (λ (l : List X). length l) front in
    let sum : length (option_to_list item ++ filter p rest) ≡ length (option_to_list item) + length (filter p rest) = length-append (option_to_list item) (filter p rest) in
    let one : length (option_to_list item) ≡ 1 = some_long item there in
    let room = h.room in
    omega (arith, room, size, sum, one)

pub picked_more : {X : Type 0} (p : X → Bool) (x : X) (left rest old all now next : List X) (capacity : ℕ) (item : Option X) → left ≡ x ∷ rest → ArePicked p left old all now capacity → item ≡ cond (p x) (Some x) None → next ≡ now ++ option_to_list item → ArePicked p rest old all next capacity
picked_more {X} p x left rest old all now next capacity item split h e is =
    let front : filter p left ≡ option_to_list item ++ filter p rest = ap (λ (l : List X). filter p l) split ∙ front_is p x rest item e in
    let whole : next ++ filter p rest ≡ now ++ filter p left = ap (λ (l : List X). l ++ filter p rest) is ∙ append_assoc now (option_to_list item) (filter p rest) ∙ ap (λ (l : List X). now ++ l) (sym front) in
    let a : length (next ++ filter p rest) ≡ length (now ++ filter p left) = ap (λ (l : List X). length l) whole in
    let b : length (next ++ filter p rest) ≡ length next + length (filter p rest) = length-append next (filter p rest) in
    let c : length (now ++ filter p left) ≡ length now + length (filter p left) = length-append now (filter p left) in
    let room = h.room in
    record {
      items = whole ∙ h.items;
      room = omega (arith, a, b, c, room);
    }

pub picked_all : {X : Type 0} (p : X → Bool) (all old now : List X) (place capacity : ℕ) → length all ≤ place → ArePicked p (drop place all) old (filter p all) now capacity → IsPermutation (old ++ filter p all) now
picked_all {X} p all old now place capacity le h =
    let none : filter p (drop place all) ≡ [] = ap (λ (l : List X). filter p l) (drop_all place all le) in
    let is : old ++ filter p all ≡ now = sym h.items ∙ ap (λ (l : List X). now ++ l) none ∙ append-nil now in
    subst (λ (l : List X). IsPermutation (old ++ filter p all) l) is (IsPermutation-refl (old ++ filter p all))
