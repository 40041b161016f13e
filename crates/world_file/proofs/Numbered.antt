-- The colours of constraints by their numbers, found from the last colour to the first.
use Rattle.std.proofs.Common.{◌≡◌, ℕ, zero, suc, ◌+◌, ◌<◌, ◌≤◌, Bool, true, false, not, cond, List, [], ◌∷◌, length, drop, Option, Some, None, refl, ap, ◌∙◌, arith, nat_lt, inl, inr}
use Rattle.std.specs.List.{position_or_len}
use Rattle.std.proofs.lemmas.Bool.{cases_lt}
use Rattle.body_handles.specs.declared.slot_table.SlotEntry.{SlotEntry}
use Rattle.plain_world.specs.Constraints.{constraint_number}
use Rattle.plain_world.specs.declared.constraint.Constraint.{Constraint}
use Rattle.plain_world.specs.declared.constraint.Constraint.TheVariants.{Joint, Contact}
use Rattle.contacts_base.specs.declared.contact.ContactEntry.{ContactEntry}
use Rattle.graph_colours.proofs.PlaceLemmas.{is_lower, not_lower}
use Rattle.plain_world.specs.Plain.{colour_of}
use Rattle.world_file.specs.Files.{contact_colours, joint_colours}
use Rattle.world_file.specs.Taken.{colour_numbered, contact_colours_by, has_number, joint_colours_by}

-- the first colour that has a constraint of the number, where the list begins with this colour
abbrev pub colour_from : ℕ → ℕ → List (List Constraint) → Option ℕ
colour_from number colour [] = None
colour_from number colour (ids ∷ rest) = cond (has_number number ids) (Some colour) (colour_from number (suc colour) rest)

place_by : (b : Bool) (n at size : ℕ) (later : Option ℕ) → later ≡ cond (nat_lt at size) (Some (suc n + at)) None → cond b (Some n) later ≡ cond (nat_lt (cond (not b) (1 + at) 0) (suc size)) (Some (n + cond (not b) (1 + at) 0)) None
place_by true n at size later h = let low : 0 < suc size = omega arith in let same : n ≡ n + 0 = omega arith in rw (is_lower 0 (suc size) low) (ap Some same)
place_by false n at size later h = elim (cases_lt at size) [
  | inl low ↦
      let up : 1 + at < suc size = omega arith in
      let same : suc n + at ≡ n + (1 + at) = omega arith in
      rw (is_lower (1 + at) (suc size) up) (h ∙ rw (is_lower at size low) (ap Some same))
  | inr high ↦
      let up : suc size ≤ 1 + at = omega arith in
      rw (not_lower (1 + at) (suc size) up) (h ∙ rw (not_lower at size high) refl)
]

from_place : (number n : ℕ) (colours : List (List Constraint)) → colour_from number n colours ≡ cond (nat_lt (position_or_len (has_number number) colours) (length colours)) (Some (n + position_or_len (has_number number) colours)) None
from_place number n [] = refl
from_place number n (ids ∷ rest) = place_by (has_number number ids) n (position_or_len (has_number number) rest) (length rest) (colour_from number (suc n) rest) (from_place number (suc n) rest)

from_first : (number : ℕ) (colours : List (List Constraint)) → colour_from number 0 colours ≡ colour_numbered number colours
from_first number colours =
    let same : 0 + position_or_len (has_number number) colours ≡ position_or_len (has_number number) colours = omega arith in
    from_place number 0 colours ∙ ap (λ at. cond (nat_lt (position_or_len (has_number number) colours) (length colours)) (Some at) None) same

pub from_none : (number left : ℕ) (colours : List (List Constraint)) → left ≤ 0 → colour_from number left (drop left colours) ≡ colour_numbered number colours
from_none number zero colours le = from_first number colours
from_none number (suc left) colours le = absurd (omega arith)

pub past_colours : (number n k : ℕ) (colours : List (List Constraint)) → length colours ≤ k → None ≡ colour_from number n (drop k colours)
past_colours number n zero [] le = refl
past_colours number n (suc k) [] le = refl
past_colours number n zero (ids ∷ rest) le = absurd (omega arith)
past_colours number n (suc k) (ids ∷ rest) le = past_colours number n k rest (omega arith)

numbered : (id : Constraint) (colours : List (List Constraint)) → colour_numbered (constraint_number id) colours ≡ colour_of id colours
unfolding colour_of
numbered id colours = refl

pub contacts_numbered : (of : ℕ → Option ℕ) (colours : List (List Constraint)) (contacts : List ContactEntry) → ((number : ℕ) → of number ≡ colour_numbered number colours) → contact_colours_by of contacts ≡ contact_colours colours contacts
contacts_numbered of colours [] each = refl
contacts_numbered of colours (e ∷ contacts) each =
    let here : of (constraint_number (Contact e.key)) ≡ colour_of (Contact e.key) colours = each (constraint_number (Contact e.key)) ∙ numbered (Contact e.key) colours in
    ap (λ x. x ∷ contact_colours_by of contacts) here ∙ ap (λ xs. colour_of (Contact e.key) colours ∷ xs) (contacts_numbered of colours contacts each)

pub joints_numbered : (of : ℕ → Option ℕ) (colours : List (List Constraint)) (slot : ℕ) (slot_entries : List SlotEntry) → ((number : ℕ) → of number ≡ colour_numbered number colours) → joint_colours_by of slot slot_entries ≡ joint_colours colours slot slot_entries
joints_numbered of colours slot [] each = refl
joints_numbered of colours slot (slot_entry ∷ slot_entries) each =
    let id : Constraint = Joint (record { slot = slot; generation = slot_entry.generation }) in
    let here : of (constraint_number id) ≡ colour_of id colours = each (constraint_number id) ∙ numbered id colours in
    ap (λ x. x ∷ joint_colours_by of (suc slot) slot_entries) here ∙ ap (λ xs. colour_of id colours ∷ xs) (joints_numbered of colours (suc slot) slot_entries each)
