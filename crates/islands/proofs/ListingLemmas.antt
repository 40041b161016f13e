-- The members of a part as a list, and the part of an island.
use Rattle.std.proofs.Common.{◌≡◌, ◌≢◌, ◌↔◌, ℕ, ◌≤◌, List, [], ◌∷◌, ◌++◌, length, Option, Some, None, true, false, inl, inr, arith, refl, sym, ap, ◌∙◌, subst}
use Rattle.std.specs.Prelude.{Contains, nat_eq}
use Rattle.std.specs.List.{IsDistinct, list_any}
use Rattle.std.specs.Cmp.{nat_eq_equiv}
use Rattle.std.specs.List.Sorted.{IsPermutation, IsNonDecreasing, IsStrictlyIncreasing}
use Rattle.std.proofs.lemmas.Bool.{ne_eqb, false≢true}
use Rattle.std.proofs.lemmas.List.Elements.{Contains-push, Contains-push_cases, Contains-append_left}
use Rattle.std.proofs.lemmas.List.Sorted.{Contains-permutation, IsPermutation-sym}
use Rattle.std.proofs.lemmas.Map.Keys.{IsDistinct-push, IsDistinct-IsPermutation, IsStrictlyIncreasing-from_distinct}
use Rattle.islands.specs.declared.threads.Note.{Note}
use Rattle.islands.specs.Labels.{label_at, is_in, IsIn}
use Rattle.islands.specs.Packed.{Notes, note_at, Heads, head_at, in_part, InPart, part_in, name_of, label_in, labels_of, labels_by, by_slot, AreNamed, IsPart, IsPacked, IsStanding, IsNamedPart, AreMembers}
use Rattle.islands.specs.Standing.{AreInverse, NodeEntries, node_at, slot_at}
use Rattle.islands.proofs.JoinLemmas.{contains_head, contains_tail}
use Rattle.islands.proofs.LabelLemmas.{in_case, in_is}
use Rattle.islands.proofs.PartLemmas.{labels_at, label_of_part, named_partition, in_name, count_few}
use Rattle.islands.proofs.StandingLemmas.{slot_note}
use Rattle.islands.proofs.PlacedLemmas.{node_in}
use Rattle.islands.proofs.ReadingLemmas.{Passed, GoesOn, none_passed, all_passed}

-- the list has the members that were passed, by their slots
pub record ArePassed (node_entries : NodeEntries) (notes : Notes) (k : ℕ) (at : Option ℕ) (members : List ℕ) : Type 0 where
  pub all : (s : ℕ) → Contains members s ↔ Passed notes k at (node_at node_entries s)
  pub apart : IsDistinct nat_eq members

none_contained : (s : ℕ) → Contains [] s → ⊥
none_contained s h = omega (arith, h.1)

not_any : (y : ℕ) (xs : List ℕ) → (Contains xs y → ⊥) → list_any (nat_eq y) xs ≡ false
not_any y [] h = refl
not_any y (x ∷ xs) h = rw (ne_eqb y x (λ e. let P : ℕ → Type 0 = λ v. Contains (x ∷ xs) v in h (subst P (sym e) (contains_head x xs)))) (not_any y xs (λ g. h (contains_tail x xs y g)))

pub list_starts : (node_entries : NodeEntries) (notes : Notes) (heads : Heads) (k : ℕ) → IsPart notes heads k → ArePassed node_entries notes k (Some (head_at heads k).first) []
unfolding IsDistinct
list_starts node_entries notes heads k p = record {
  all = λ s. (λ h. absurd (none_contained s h), λ h. absurd (none_passed notes heads k (node_at node_entries s) p h));
  apart = tt;
}

pub list_goes : (node_entries : NodeEntries) (notes : Notes) (k t : ℕ) (at later : Option ℕ) (members : List ℕ) → AreInverse node_entries → GoesOn notes k t at later → ArePassed node_entries notes k at members → ArePassed node_entries notes k later (members ++ slot_at node_entries t ∷ [])
list_goes node_entries notes k t at later members w on list =
    let P : ℕ → Type 0 = λ v. Passed notes k later v in
    let Q : ℕ → Type 0 = λ v. Passed notes k at v in
    record {
      all = λ s. (
        λ h. elim (Contains-push_cases members (slot_at node_entries t) s h) [
          | inl g ↦ on.still (node_at node_entries s) ((list.all s).0 g)
          | inr e ↦ subst P (sym (w.forth t) ∙ ap (node_at node_entries) e) on.here
        ],
        λ h. elim (on.only (node_at node_entries s) h) [
          | inl e ↦ let R : ℕ → Type 0 = λ v. Contains (members ++ slot_at node_entries t ∷ []) v in subst R (ap (slot_at node_entries) (sym e) ∙ w.back s) (Contains-push members (slot_at node_entries t))
          | inr g ↦ Contains-append_left members (slot_at node_entries t ∷ []) s ((list.all s).1 g)
        ],
      );
      apart = IsDistinct-push nat_eq_equiv members (slot_at node_entries t) list.apart (not_any (slot_at node_entries t) members (λ h. on.fresh (subst Q (w.forth t) ((list.all (slot_at node_entries t)).0 h))));
    }

pub list_ends : (node_entries : NodeEntries) (notes : Notes) (k : ℕ) (at : Option ℕ) (members : List ℕ) → at ≡ None → length node_entries ≡ length notes → ArePassed node_entries notes k at members → AreMembers (by_slot node_entries notes) k members
list_ends node_entries notes k at members e size list = record {
  all = λ s. (
    λ h. ap (in_part k) (slot_note node_entries notes s size) ∙ ((list.all s).0 h).0,
    λ h. (list.all s).1 (all_passed notes k (node_at node_entries s) at e (sym (ap (in_part k) (slot_note node_entries notes s size)) ∙ h)),
  );
  apart = list.apart;
}

-- ---- in order

pub sorted_rises : (notes : Notes) (k : ℕ) (members sorted : List ℕ) → AreMembers notes k members → IsPermutation members sorted → IsNonDecreasing sorted → IsStrictlyIncreasing sorted
sorted_rises notes k members sorted list moved order = IsStrictlyIncreasing-from_distinct sorted order (IsDistinct-IsPermutation nat_eq nat_eq_equiv.symm members sorted moved list.apart)

pub sorted_all : (notes : Notes) (k : ℕ) (members sorted : List ℕ) → AreMembers notes k members → IsPermutation members sorted → (s : ℕ) → Contains sorted s ↔ InPart notes k s
sorted_all notes k members sorted list moved s = (
  λ h. (list.all s).0 (Contains-permutation sorted members s (IsPermutation-sym members sorted moved) h),
  λ h. Contains-permutation members sorted s moved ((list.all s).1 h),
)

-- ---- the part of an island

-- who is in the island is in its part
pub named_test : (notes : Notes) (heads : Heads) (name part v s : ℕ) → AreNamed notes heads → InPart notes part v → name_of heads part ≡ name → is_in (label_at (labels_of notes heads) s) name ≡ in_part part (note_at notes s)
named_test notes heads name part v s p h e = ap (λ n. is_in (label_at (labels_of notes heads) s) n) (sym e) ∙ ap (λ o. is_in o (name_of heads part)) (labels_at heads notes s) ∙ in_name notes heads part v s p h

-- an island has a mover in the slot of its name
name_there : (notes : Notes) (heads : Heads) (name s : ℕ) → AreNamed notes heads → is_in (label_at (labels_of notes heads) s) name ≡ true → is_in (label_at (labels_of notes heads) name) name ≡ true
name_there notes heads name s p h =
    let l = in_is (label_at (labels_of notes heads) s) name h in
    let at : label_at (labels_of notes heads) l.0.name ≡ Some l.0 = (named_partition notes heads p).named s l.0 l.1 in
    ap (λ o. is_in o name) (ap (label_at (labels_of notes heads)) (sym l.2) ∙ at ∙ sym l.1) ∙ h

pub none_named : (notes : Notes) (heads : Heads) (name : ℕ) → AreNamed notes heads → is_in (label_at (labels_of notes heads) name) name ≡ false → (s : ℕ) → is_in (label_at (labels_of notes heads) s) name ≡ false
none_named notes heads name p off s = elim (in_case (label_at (labels_of notes heads) s) name) [
  | inl on ↦ absurd (false≢true (sym off ∙ name_there notes heads name s p on))
  | inr away ↦ away
]

pub not_name : (notes : Notes) (heads : Heads) (name part : ℕ) → InPart notes part name → name_of heads part ≢ name → is_in (label_at (labels_of notes heads) name) name ≡ false
not_name notes heads name part h away = ap (λ o. is_in o name) (labels_at heads notes name ∙ label_of_part heads part (note_at notes name) h) ∙ ne_eqb (name_of heads part) name away

no_mover_at : (heads : Heads) (o : Option Note) (name : ℕ) → part_in o ≡ None → is_in (label_in heads o) name ≡ false
no_mover_at heads None name e = refl
no_mover_at heads (Some n) name e = let some : Some n.part ≡ None = e in absurd (cc)

pub no_mover : (notes : Notes) (heads : Heads) (slot name : ℕ) → part_in (note_at notes slot) ≡ None → is_in (label_at (labels_of notes heads) slot) name ≡ false
no_mover notes heads slot name e = ap (λ o. is_in o name) (labels_at heads notes slot) ∙ no_mover_at heads (note_at notes slot) name e

pub nobody_listed : (node_entries : NodeEntries) (notes : Notes) (heads : Heads) (name : ℕ) (members : List ℕ) → members ≡ [] → IsNamedPart node_entries notes heads name None → (s : ℕ) → Contains members s ↔ IsIn (labels_by node_entries notes heads) name s
nobody_listed node_entries notes heads name members e none s = (λ h. absurd (let P : List ℕ → Type 0 = λ xs. Contains xs s in none_contained s (subst P e h)), λ h. absurd (false≢true (sym (none s) ∙ h)))

pub all_listed : (node_entries : NodeEntries) (notes : Notes) (heads : Heads) (name part : ℕ) (members : List ℕ) → IsStanding node_entries notes heads → IsNamedPart node_entries notes heads name (Some part) → ((s : ℕ) → Contains members s ↔ InPart (by_slot node_entries notes) part s) → (s : ℕ) → Contains members s ↔ IsIn (labels_by node_entries notes heads) name s
all_listed node_entries notes heads name part members w named all s =
    let test = named_test (by_slot node_entries notes) heads name part (slot_at node_entries part) s w.named (node_in node_entries notes heads part part w named.0) named.1 in
    (λ h. test ∙ (all s).0 h, λ h. (all s).1 (sym test ∙ h))

pub none_twice : (members : List ℕ) → members ≡ [] → IsDistinct nat_eq members
unfolding IsDistinct
none_twice members e = rw e tt

-- there is room for a part where there is room for all slots
pub part_room : (notes : Notes) (heads : Heads) (part capacity : ℕ) → IsPacked notes heads → InPart notes part part → length notes ≤ capacity → (head_at heads part).count ≤ capacity
part_room notes heads part capacity p h room = let size = (p.parts part part h).size in let few = count_few part notes in omega (arith, size, few, room)
