-- The constraints of an island take colours one after the other, and give them up.
use Rattle.std.proofs.Common.{◌≡◌, ℕ, suc, ◌+◌, ◌<◌, ◌≤◌, true, false, not, List, ◌∷◌, get_or, drop, length, None, Some, arith, sym, ap, ◌∙◌, subst, inl, inr}
use Rattle.std.specs.Prelude.{Contains, filter}
use Rattle.std.proofs.lemmas.Bool.{false≢true}
use Rattle.std.proofs.lemmas.List.{drop_more}
use Rattle.std.specs.List.Sorted.{IsPermutation}
use Rattle.std.proofs.lemmas.List.Sorted.{length_permutation}
use Rattle.graph_colours.specs.declared.member.Member.{Member}
use Rattle.graph_colours.specs.Colours.{all_members, with_placed}
use Rattle.graph_colours.specs.FoundMembers.{colour_of}
use Rattle.graph_colours.proofs.ListLemmas.{pairs_tail}
use Rattle.graph_colours.proofs.ColouringLemmas.{placed_others}
use Rattle.islands.specs.declared.label.Label.{Label}
use Rattle.islands.specs.Labels.{label_at, IsIn, is_asleep}
use Rattle.islands.proofs.JoinLemmas.{contains_tail}
use Rattle.sleep_wake.specs.Acting.{Acting, IsConsistent, is_mover_awake, are_awake}
use Rattle.sleep_wake.specs.Waking.{has_mover_of}
use Rattle.sleep_wake.specs.Rooms.{CanPlace}
use Rattle.sleep_wake.proofs.ListLemmas.{above_head, one_of, absent_from}
use Rattle.sleep_wake.proofs.CountLemmas.{counted}
use Rattle.sleep_wake.proofs.AwakeLemmas.{awake_first, of_island, awake_as}

-- the constraint in a place, and those after it
pub front_is : {C : Type 0} (ms : List (Member C)) (i : ℕ) (m : Member C) → i < length ms → m ≡ get_or ms i m → drop i ms ≡ m ∷ drop (i + 1) ms
front_is {C} ms i m lt e = drop_more ms i m lt ∙ ap (λ (x : Member C). x ∷ drop (i + 1) ms) (sym e)

-- one gets a colour, and the others are without as before
pub placed_one : {C : Type 0} (number : C → ℕ) (m : Member C) (ms : List (Member C)) (lists : List (List (Member C))) (room left slots : ℕ) → CanPlace number (m ∷ ms) lists room slots → room ≡ left + 1 → CanPlace number ms (with_placed number m lists) left slots
placed_one number m ms lists room left slots w r = record {
  rising = pairs_tail (λ a b. number a.id < number b.id) m ms w.rising;
  absent = λ x h. let lt : number m.id < number x.id = above_head number m ms x w.rising h in
      placed_others number m lists x.id (λ e. omega (arith, lt, e)) ∙ w.absent x (contains_tail m ms x h);
  below = λ x h. w.below x (contains_tail m ms x h);
  enough = let e : suc (length ms) ≤ room = w.enough in omega (arith, e, r);
}

pub room_for_one : {C : Type 0} (number : C → ℕ) (m : Member C) (ms : List (Member C)) (lists : List (List (Member C))) (room slots : ℕ) → CanPlace number (m ∷ ms) lists room slots → 1 ≤ room
room_for_one number m ms lists room slots w = let e : suc (length ms) ≤ room = w.enough in omega (arith, e)

-- no constraint of an island that sleeps has a colour
pub sleepers_absent : {C : Type 0} (number : C → ℕ) (s : Acting C) (name : ℕ) (l : Label) → IsConsistent number s → label_at s.labels name ≡ Some l → l.name ≡ name → is_asleep l.state ≡ true
    → (x : Member C) → Contains s.ties x → has_mover_of s.labels name x ≡ true → colour_of number x.id s.lists ≡ None
sleepers_absent {C} number s name l w e k a x h q =
    let down : (t : ℕ) → IsIn s.labels name t → is_mover_awake s.labels t ≡ false = λ t i. awake_as s.labels name t l w.islands.partition e k i ∙ ap not a in
    let rest : are_awake s.labels x.movers ≡ true → ⊥ = λ r. elim (of_island number s name x w h) [
      | inl p ↦ false≢true (sym (down x.movers.first p.1.one) ∙ awake_first s.labels x.movers.first x.movers.second r)
      | inr p ↦ false≢true (sym p.0 ∙ q)
    ] in
    absent_from number x.id s.lists (λ y i r.
    let p = (w.acting y).0 i in
    let same : y ≡ x = one_of number s.ties y x w.rising p.0 h r in
    let P : Member C → Type 0 = λ v. are_awake s.labels v.movers ≡ true in
    rest (subst P same p.1))

-- one that has a colour is none of an island that sleeps
coloured_not : {C : Type 0} (number : C → ℕ) (s : Acting C) (name : ℕ) (l : Label) → IsConsistent number s → label_at s.labels name ≡ Some l → l.name ≡ name → is_asleep l.state ≡ true
    → (x : Member C) → Contains (all_members s.lists) x → Contains s.ties x × (has_mover_of s.labels name x ≡ false)
coloured_not number s name l w e k a x h =
    let o = (w.acting x).0 h in (
      o.0,
      elim (of_island number s name x w o.0) [
        | inl p ↦ absurd (false≢true (sym (awake_as s.labels name x.movers.first l w.islands.partition e k p.1.one ∙ ap not a) ∙ awake_first s.labels x.movers.first x.movers.second o.1))
        | inr p ↦ p.0
      ],
    )

-- where each constraint without a colour has room, those of an island that sleeps do
pub room_for_sleepers : {C : Type 0} (number : C → ℕ) (s : Acting C) (name room : ℕ) (l : Label) → IsConsistent number s → label_at s.labels name ≡ Some l → l.name ≡ name → is_asleep l.state ≡ true
    → length s.ties ≤ room + length (all_members s.lists) → length (filter (has_mover_of s.labels name) s.ties) ≤ room
room_for_sleepers number s name room l w e k a enough =
    let few : length (all_members s.lists) + length (filter (has_mover_of s.labels name) s.ties) ≤ length s.ties = counted number (has_mover_of s.labels name) s.ties (all_members s.lists) w.rising w.colouring.once (coloured_not number s name l w e k a) in
    omega (arith, few, enough)

-- a constraint that is placed takes one of the room, and is one more with a colour
pub one_more : {C : Type 0} (m : Member C) (old new : List (Member C)) → IsPermutation (m ∷ old) new → length new ≡ suc (length old)
one_more m old new p = length_permutation (m ∷ old) new p
