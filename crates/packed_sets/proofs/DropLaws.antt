-- Sets of which one with no ids was dropped, whose number the last one took.
use Rattle.std.proofs.Common.{◌≡◌, ◌≢◌, ℕ, suc, ◌-◌, ◌<◌, ◌≤◌, ◌^◌, List, [], length, get_or, slice_set, take, map, refl, ap, sym, subst, ◌∙◌, arith, inl, inr, Option, Some, None, Vec, Global}
use Rattle.std.specs.Prelude.{slice_get}
use Rattle.std.specs.List.{Contains, swap_remove}
use Rattle.std.proofs.lemmas.Bool.{cases_lt, cases_eq}
use Rattle.std.proofs.lemmas.List.{length-set, length-take-le, get_or-take, get_or-set_same, get_or-set_other, get_or_past}
use Rattle.packed_sets.specs.declared.spots.Spot.{Spot}
use Rattle.packed_sets.specs.Packs.{list_at}
use Rattle.packed_sets.specs.Notes.{spot_at, spot_of, numbers_of, IsKept, AreRenoted}
use Rattle.packed_sets.proofs.ListLaws.{none_not_some, place_of, member_at}
use Rattle.packed_sets.proofs.PackLaws.{one_spot, same_set, same_place}
use Rattle.packed_sets.proofs.KeptLaws.{below_notes, distinct_most, each_once, grown_kept, within_sets}
use Rattle.packed_sets.proofs.NumberLaws.{numbers_at, numbers_count}
use Rattle.packed_sets.proofs.ViewLaws.{list_seen, seen_count, swap_map}

-- what is known of the lists
pub record IsDropped (old new : List (List ℕ)) (s : ℕ) : Type 0 where
  pub short : length old ≡ suc (length new)
  pub moved : s < length new → list_at new s ≡ list_at old (length new)
  pub others : (t : ℕ) → t ≢ s → t < length new → list_at new t ≡ list_at old t

pub dropped_is : (sets : List (List ℕ)) (s : ℕ) → s < length sets → IsDropped sets (swap_remove sets s []) s
dropped_is sets s lt =
    let n : ℕ = length sets - 1 in
    let last : List ℕ = get_or sets n [] in
    let changed : List (List ℕ) = slice_set sets s last in
    let long : length changed ≡ length sets = length-set sets s last in
    let short : length (take n changed) ≡ n = length-take-le n changed (omega (arith, long)) in
    record {
      short = omega (arith, short, lt);
      moved = λ less. get_or-take n changed s [] (omega (arith, less, short)) ∙ get_or-set_same sets s last [] lt ∙ ap (λ (k : ℕ). list_at sets k) (sym short);
      others = λ t off less. get_or-take n changed t [] (omega (arith, less, short)) ∙ get_or-set_other sets s t last [] off;
    }

-- and of their numbers
pub dropped_numbers : {X : Type 0} (number : X → ℕ) (sets new : List (List X)) (s : ℕ) → s < length sets → new ≡ swap_remove sets s [] → IsDropped (numbers_of number sets) (numbers_of number new) s
dropped_numbers {X} number sets new s lt is =
    let many : length (numbers_of number sets) ≡ length sets = numbers_count number sets in
    let P : List (List ℕ) → Type 0 = λ l. IsDropped (numbers_of number sets) l s in
    subst P (sym (ap (λ (l : List (List X)). numbers_of number l) is ∙ swap_map (map number) sets s [] [] lt)) (dropped_is (numbers_of number sets) s (omega (arith, lt, many)))

none_inside : (n p : ℕ) → slice_get [] p ≡ Some n → ⊥
none_inside n p e = none_not_some n e

-- where an id stands by the notes, it does
there_by : (sets new : List (List ℕ)) (notes later : List (Option Spot)) (s : ℕ) → IsKept sets notes → list_at sets s ≡ [] → IsDropped sets new s → s < length new → AreRenoted (list_at sets (length new)) s notes later
    → (x t p : ℕ) (o : Option Spot) → spot_of notes x ≡ o → spot_of later x ≡ Some (spot_at t p) → slice_get (list_at new t) p ≡ Some x
there_by sets new notes later s is empty d lt r x t p None e k =
    let absent : Contains (list_at sets (length new)) x → ⊥ = λ h.
    let at : (q : ℕ) × (slice_get (list_at sets (length new)) q ≡ Some x) = place_of (list_at sets (length new)) x h in
    none_not_some (spot_at (length new) at.0) (sym e ∙ is.packed.known x (length new) at.0 at.1) in
    absurd (none_not_some (spot_at t p) (sym e ∙ sym (r.others x absent) ∙ k))
there_by sets new notes later s is empty d lt r x t p (Some at) e k =
    let m : ℕ = length new in
    let stood : slice_get (list_at sets at.set) at.place ≡ Some x = is.packed.there x at.set at.place e in
    elim (cases_eq at.set m) [
      | inl same ↦
          let last : slice_get (list_at sets m) at.place ≡ Some x = subst (λ (u : ℕ). slice_get (list_at sets u) at.place ≡ Some x) same stood in
          let both : Some (spot_at s at.place) ≡ Some (spot_at t p) = sym (r.own x at.place last) ∙ k in
          let here : slice_get (list_at new s) at.place ≡ Some x = ap (λ (l : List ℕ). slice_get l at.place) (d.moved lt) ∙ last in
          subst (λ (u : ℕ). slice_get (list_at new u) p ≡ Some x) (same_set s at.place t p both) (subst (λ (q : ℕ). slice_get (list_at new s) q ≡ Some x) (same_place s at.place t p both) here)
      | inr off ↦
          let absent : Contains (list_at sets m) x → ⊥ = λ h.
          let place : (q : ℕ) × (slice_get (list_at sets m) q ≡ Some x) = place_of (list_at sets m) x h in
          off (one_spot sets (spot_of notes) is.packed at.set m at.place place.0 x stood place.1).0 in
          let was : slice_get (list_at sets t) p ≡ Some x = is.packed.there x t p (sym (r.others x absent) ∙ k) in
          let at_t : at.set ≡ t = (one_spot sets (spot_of notes) is.packed at.set t at.place p x stood was).0 in
          let other : t ≢ s = λ q. none_inside x p (subst (λ (l : List ℕ). slice_get l p ≡ Some x) empty (subst (λ (u : ℕ). slice_get (list_at sets u) p ≡ Some x) q was)) in
          let inside : t < length sets = within_sets sets t p x was in
          let low : t < m = omega (arith, inside, d.short, at_t, off) in
          ap (λ (l : List ℕ). slice_get l p) (d.others t other low) ∙ was
    ]

-- the last set took the number
low_kept : (sets new : List (List ℕ)) (notes later : List (Option Spot)) (s : ℕ) → IsKept sets notes → list_at sets s ≡ [] → IsDropped sets new s → s < length new → AreRenoted (list_at sets (length new)) s notes later → IsKept new later
low_kept sets new notes later s is empty d lt r =
    let m : ℕ = length new in
    let within : (x t p : ℕ) → slice_get (list_at new t) p ≡ Some x → t < m = λ x t p k. within_sets new t p x k in
    let alone : (x t p : ℕ) → t ≢ m → slice_get (list_at sets t) p ≡ Some x → Contains (list_at sets m) x → ⊥ = λ x t p off was h.
    let at : (q : ℕ) × (slice_get (list_at sets m) q ≡ Some x) = place_of (list_at sets m) x h in
    off (one_spot sets (spot_of notes) is.packed t m p at.0 x was at.1).0 in
    let old_at : (x t p : ℕ) → t ≢ s → slice_get (list_at new t) p ≡ Some x → slice_get (list_at sets t) p ≡ Some x = λ x t p off k.
    subst (λ (l : List ℕ). slice_get l p ≡ Some x) (d.others t off (within x t p k)) k in
    let last_at : (x p : ℕ) → slice_get (list_at new s) p ≡ Some x → slice_get (list_at sets m) p ≡ Some x = λ x p k.
    subst (λ (l : List ℕ). slice_get l p ≡ Some x) (d.moved lt) k in
    record {
      packed = record {
        known = λ x t p k. elim (cases_eq t s) [
          | inl same ↦
              let here : slice_get (list_at new s) p ≡ Some x = subst (λ (u : ℕ). slice_get (list_at new u) p ≡ Some x) same k in
              subst (λ (u : ℕ). spot_of later x ≡ Some (spot_at u p)) (sym same) (r.own x p (last_at x p here))
          | inr off ↦
              let was : slice_get (list_at sets t) p ≡ Some x = old_at x t p off k in
              let low : t < m = within x t p k in
              r.others x (alone x t p (λ q. omega (arith, q, low)) was) ∙ is.packed.known x t p was
        ];
        there = λ x t p k. there_by sets new notes later s is empty d lt r x t p (spot_of notes x) refl k;
      };
      small = λ x t h.
          let at : (q : ℕ) × (slice_get (list_at new t) q ≡ Some x) = place_of (list_at new t) x h in
          elim (cases_eq t s) [
            | inl same ↦
                let here : slice_get (list_at new s) at.0 ≡ Some x = subst (λ (u : ℕ). slice_get (list_at new u) at.0 ≡ Some x) same at.1 in
                is.small x m (member_at (list_at sets m) at.0 x (last_at x at.0 here))
            | inr off ↦ is.small x t (member_at (list_at sets t) at.0 x (old_at x t at.0 off at.1))
          ];
    }

-- the last set itself was dropped
last_kept : (sets new : List (List ℕ)) (notes later : List (Option Spot)) (s : ℕ) → IsKept sets notes → list_at sets s ≡ [] → IsDropped sets new s → length new ≤ s → s < length sets → later ≡ notes → IsKept new later
last_kept sets new notes later s is empty d le lt same =
    let last : s ≡ length new = omega (arith, le, lt, d.short) in
    grown_kept sets new notes later
    (λ t. elim (cases_lt t (length new)) [
      | inl low ↦ d.others t (λ q. omega (arith, q, low, le)) low
      | inr high ↦
          let none : list_at new t ≡ [] = get_or_past new t [] high in
          none ∙ sym (elim (cases_eq t s) [
            | inl q ↦ ap (λ (u : ℕ). list_at sets u) q ∙ empty
            | inr off ↦ get_or_past sets t [] (omega (arith, high, off, last, d.short))
          ])
    ])
    (λ x. ap (λ (n : List (Option Spot)). spot_of n x) same) is

pub drop_kept : (sets new : List (List ℕ)) (notes later : List (Option Spot)) (s : ℕ) → IsKept sets notes → list_at sets s ≡ [] → IsDropped sets new s → s < length sets → (s < length new → AreRenoted (list_at sets (length new)) s notes later) → (length new ≤ s → later ≡ notes) → IsKept new later
drop_kept sets new notes later s is empty d lt low high = elim (cases_lt s (length new)) [
  | inl less ↦ low_kept sets new notes later s is empty d less (low less)
  | inr ge ↦ last_kept sets new notes later s is empty d ge lt (high ge)
]

-- ---- the ids of the last set, which took the number, as vectors are seen

pub record HasMoved (old new : List (List ℕ)) (ids : List ℕ) (s : ℕ) : Type 0 where
  pub dropped : IsDropped old new s
  pub less : s < length new
  pub same : ids ≡ list_at old (length new)

pub moved_in : {X : Type 0} (number : X → ℕ) (old new : List (Vec X Global)) (s : ℕ) (v : Vec X Global) (ids : List X)
    → s < length old → map (λ (w : Vec X Global). w.items) new ≡ swap_remove (map (λ (w : Vec X Global). w.items) old) s [] → s < length new → v ≡ get_or new s v → ids ≡ v.items
    → HasMoved (numbers_of number (map (λ (w : Vec X Global). w.items) old)) (numbers_of number (map (λ (w : Vec X Global). w.items) new)) (map number ids) s
moved_in {X} number old new s v ids lt is within stands e =
    let before : List (List X) = map (λ (w : Vec X Global). w.items) old in
    let after : List (List X) = map (λ (w : Vec X Global). w.items) new in
    let dropped : IsDropped (numbers_of number before) (numbers_of number after) s = dropped_numbers number before after s (omega (arith, lt, seen_count old)) is in
    let less : s < length (numbers_of number after) = omega (arith, within, numbers_count number after, seen_count new) in
    let seen : list_at after s ≡ v.items = list_seen new s v within stands in
    record {
      dropped = dropped;
      less = less;
      same = ap (λ (l : List X). map number l) (e ∙ sym seen) ∙ sym (numbers_at number after s) ∙ dropped.moved less;
    }

stood_at : (old new : List (List ℕ)) (ids : List ℕ) (s p k : ℕ) → HasMoved old new ids s → slice_get ids p ≡ Some k → slice_get (list_at old (length new)) p ≡ Some k
stood_at old new ids s p k is at = subst (λ (l : List ℕ). slice_get l p ≡ Some k) is.same at

pub moved_below : (old new : List (List ℕ)) (notes : List (Option Spot)) (ids : List ℕ) (s p k : ℕ) → IsKept old notes → HasMoved old new ids s → slice_get ids p ≡ Some k → k < length notes
moved_below old new notes ids s p k kept is at = below_notes old notes (length new) k kept (member_at (list_at old (length new)) p k (stood_at old new ids s p k is at))

pub moved_once : (old new : List (List ℕ)) (notes : List (Option Spot)) (ids : List ℕ) (s p q k : ℕ) → IsKept old notes → HasMoved old new ids s → slice_get ids p ≡ Some k → slice_get ids q ≡ Some k → p ≡ q
moved_once old new notes ids s p q k kept is at also = (each_once old notes kept (length new) (length new) p q k (stood_at old new ids s p k is at) (stood_at old new ids s q k is also)).1

pub moved_few : (old new : List (List ℕ)) (notes : List (Option Spot)) (ids : List ℕ) (s : ℕ) → IsKept old notes → HasMoved old new ids s → length ids ≤ 2 ^ 32
moved_few old new notes ids s kept is =
    distinct_most ids (2 ^ 32) (λ p k at. kept.small k (length new) (member_at (list_at old (length new)) p k (stood_at old new ids s p k is at))) (λ p q k at also. moved_once old new notes ids s p q k kept is at also)

-- the notes of these ids follow
pub moved_kept : (old new : List (List ℕ)) (notes later : List (Option Spot)) (ids : List ℕ) (s : ℕ) → IsKept old notes → list_at old s ≡ [] → HasMoved old new ids s → s < length old → AreRenoted ids s notes later → IsKept new later
moved_kept old new notes later ids s kept empty is lt renoted =
    drop_kept old new notes later s kept empty is.dropped lt (λ low. subst (λ (l : List ℕ). AreRenoted l s notes later) is.same renoted) (λ ge. let less = is.less in absurd (omega (arith, ge, less)))
