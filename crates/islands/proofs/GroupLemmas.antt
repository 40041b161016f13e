-- What the islands' type keeps: each call leaves parts of few slots.
use Rattle.std.proofs.Common.{◌≡◌, ℕ, ◌^◌, ◌<◌, ◌≤◌, length, Option, Some, None, arith, refl, sym, ap, ◌∙◌, subst}
use Rattle.std.specs.Prelude.{IsSome}
use Rattle.std.proofs.lemmas.Grind.{common_steps}
use Rattle.std.proofs.lemmas.Bool.{false≢true}
use Rattle.std.proofs.lemmas.List.{length-map}
use Rattle.std.specs.Option.{option_map_or}
use Rattle.islands.specs.declared.threads.Note.{Note}
use Rattle.islands.specs.declared.label.Label.{Label}
use Rattle.islands.specs.declared.label.IslandState.TheVariants.{Loose}
use Rattle.islands.specs.Labels.{Labels, label_at, IsIn, added, with_state, loosened, merged}
use Rattle.islands.specs.Packed.{Notes, note_at, Heads, head_at, part_in, name_of, label_in, labels_of, labels_by, by_slot, IsStanding, IsKept}
use Rattle.islands.specs.Standing.{NodeEntries}
use Rattle.islands.proofs.LabelLemmas.{in_is}
use Rattle.islands.proofs.SplitLemmas.{still_labelled}
use Rattle.islands.proofs.StandingLemmas.{slots_size}
use Rattle.islands.proofs.PartLemmas.{labels_at, label_of_part, in_of_part}

labels_size : (notes : Notes) (heads : Heads) → length (labels_of notes heads) ≡ length notes
labels_size notes heads = length-map notes (label_in heads)

pub labels_by_size : (node_entries : NodeEntries) (notes : Notes) (heads : Heads) → length (labels_by node_entries notes heads) ≡ length node_entries
labels_by_size node_entries notes heads = labels_size (by_slot node_entries notes) heads ∙ slots_size node_entries notes

-- as many slots, and no less room
pub kept_same : (node_entries : NodeEntries) (old : Notes) (heads : Heads) (now : NodeEntries) (new : Notes) (also : Heads) (first one two three four five room : ℕ) → IsKept node_entries old heads first one two room → IsStanding now new also → length new ≡ length old → first ≤ three → one ≤ four → two ≤ five → IsKept now new also three four five room
kept_same node_entries old heads now new also first one two three four five room w p size least more rest = let f = w.few in let q = w.node_entries_room in let n = w.notes_room in let h = w.heads_room in
    record { standing = p; few = omega (arith, f, size); node_entries_room = omega (arith, q, least); notes_room = omega (arith, n, more); heads_room = omega (arith, h, rest) }

added_few : (labels : Labels) (slot : ℕ) → slot < 2 ^ 32 → length labels ≤ 2 ^ 32 → length (added labels slot) ≤ 2 ^ 32
added_few labels slot h k = grind (arith, common_steps)

pub kept_added : (node_entries : NodeEntries) (old : Notes) (heads : Heads) (now : NodeEntries) (new : Notes) (also : Heads) (first one two three four five room slot : ℕ) → IsKept node_entries old heads first one two room → IsStanding now new also → labels_by now new also ≡ added (labels_by node_entries old heads) slot → slot < 2 ^ 32 → first ≤ three → one ≤ four → two ≤ five → IsKept now new also three four five room
kept_added node_entries old heads now new also first one two three four five room slot w p e lt least more rest =
    let f = w.few in let q = w.node_entries_room in let n = w.notes_room in let h = w.heads_room in
    let before = labels_by_size node_entries old heads in let after = labels_by_size now new also in
    let old_size = w.standing.size in let new_size = p.size in
    let few : length (added (labels_by node_entries old heads) slot) ≤ 2 ^ 32 = added_few (labels_by node_entries old heads) slot lt (omega (arith, f, before, old_size)) in
    let same : length (labels_by now new also) ≡ length (added (labels_by node_entries old heads) slot) = ap length e in
    record { standing = p; few = omega (arith, few, same, after, new_size); node_entries_room = omega (arith, q, least); notes_room = omega (arith, n, more); heads_room = omega (arith, h, rest) }

-- ---- whether there is a mover

no_note_of : (heads : Heads) (o : Option Note) → label_in heads o ≡ None → o ≡ None
no_note_of heads None e = refl
no_note_of heads (Some n) e = let some : Some (head_at heads n.part).label ≡ None = e in absurd (cc)

pub no_note : (notes : Notes) (heads : Heads) (slot : ℕ) → label_at (labels_of notes heads) slot ≡ None → note_at notes slot ≡ None
no_note notes heads slot e = no_note_of heads (note_at notes slot) (sym (labels_at heads notes slot) ∙ e)

some_note_of : (heads : Heads) (o : Option Note) → IsSome (label_in heads o) → IsSome o
some_note_of heads None h = absurd (false≢true h)
some_note_of heads (Some n) h = refl

pub some_note : (notes : Notes) (heads : Heads) (slot : ℕ) → IsSome (label_at (labels_of notes heads) slot) → IsSome (note_at notes slot)
some_note notes heads slot h = let P : Option Label → Type 0 = λ o. IsSome o in some_note_of heads (note_at notes slot) (subst P (labels_at heads notes slot) h)

-- ---- the part of a mover

label_by_part : (notes : Notes) (heads : Heads) (slot part : ℕ) → part_in (note_at notes slot) ≡ Some part → label_at (labels_of notes heads) slot ≡ Some (head_at heads part).label
label_by_part notes heads slot part e = labels_at heads notes slot ∙ label_of_part heads part (note_at notes slot) (in_of_part (note_at notes slot) part e)

pub loosened_part : (notes : Notes) (heads : Heads) (slot part : ℕ) → part_in (note_at notes slot) ≡ Some part → loosened (labels_of notes heads) slot ≡ with_state (name_of heads part) Loose (labels_of notes heads)
unfolding loosened
loosened_part notes heads slot part e = ap (λ o. option_map_or (λ (label : Label). with_state label.name Loose (labels_of notes heads)) o (labels_of notes heads)) (label_by_part notes heads slot part e)

-- the mover in the slot of an island's name is in it
pub named_part : (notes : Notes) (heads : Heads) (name part : ℕ) → IsIn (labels_of notes heads) name name → part_in (note_at notes name) ≡ Some part → name_of heads part ≡ name
named_part notes heads name part h e =
    let l = in_is (label_at (labels_of notes heads) name) name h in
    let same : Some l.0 ≡ Some (head_at heads part).label = sym l.1 ∙ label_by_part notes heads name part e in
    let one : l.0 ≡ (head_at heads part).label = cc in
    ap (λ (x : Label). x.name) (sym one) ∙ l.2

-- ---- a merge leaves each mover where it is

label_there : (heads : Heads) (o : Option Note) → IsSome o → (l : Label) × (label_in heads o ≡ Some l)
label_there heads None h = absurd (false≢true h)
label_there heads (Some n) h = ((head_at heads n.part).label, refl)

pub still_there : (notes : Notes) (heads : Heads) (new : Notes) (also : Heads) (a b s : ℕ) → labels_of new also ≡ merged (labels_of notes heads) a b → IsSome (note_at notes s) → IsSome (note_at new s)
still_there notes heads new also a b s e h =
    let was = label_there heads (note_at notes s) h in
    let now = still_labelled (labels_of notes heads) a b s (was.0, labels_at heads notes s ∙ was.1) in
    let P : Option Label → Type 0 = λ o. IsSome o in
    some_note new also s (subst P (sym (ap (λ l. label_at l s) e ∙ now.1)) refl)
