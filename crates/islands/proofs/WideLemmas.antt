-- Slots without a mover, added at the end: no part and no label changes.
use Rattle.std.proofs.Common.{◌≡◌, ℕ, zero, suc, ◌-◌, ◌≤◌, ◌^◌, List, [], ◌∷◌, ◌++◌, length, get_or, replicate, Option, Some, None, arith, refl, sym, ap, ◌∙◌}
use Rattle.std.proofs.lemmas.Grind.{common_steps}
use Rattle.std.proofs.lemmas.List.{length-map}
use Rattle.islands.specs.declared.threads.Head.{Head}
use Rattle.islands.specs.declared.threads.Note.{Note}
use Rattle.islands.specs.Labels.{Labels, label_at, padded}
use Rattle.islands.specs.Standing.{AreWidened, NodeEntries, node_at}
use Rattle.islands.specs.Packed.{AreNamed, Heads, InPart, IsKept, IsLowestIn, IsPacked, IsStanding, Notes, by_slot, filled, head_at, in_part, label_in, labels_by, labels_of, name_of, no_head, note_at}
use Rattle.islands.proofs.PartLemmas.{labels_at, part_stays}
use Rattle.islands.proofs.SlotLemmas.{same_labels}
use Rattle.islands.proofs.StandingLemmas.{slot_note, slots_size, widened_inverse}
use Rattle.islands.proofs.GroupLemmas.{labels_by_size, no_note}

blank : {X : Type 0} (n s : ℕ) (d : X) → get_or (replicate n d) s d ≡ d
blank zero s d = refl
blank (suc n) zero d = refl
blank (suc n) (suc s) d = blank n s d

blanks : {X : Type 0} (xs : List X) (n s : ℕ) (d : X) → get_or (xs ++ replicate n d) s d ≡ get_or xs s d
blanks [] n s d = blank n s d
blanks (x ∷ xs) n zero d = refl
blanks (x ∷ xs) n (suc s) d = blanks xs n s d

wide_note : (notes : Notes) (n s : ℕ) → note_at (filled None notes n) s ≡ note_at notes s
wide_note notes n s = blanks notes (n - length notes) s None

wide_head : (heads : Heads) (n k : ℕ) → head_at (filled no_head heads n) k ≡ head_at heads k
wide_head heads n k = blanks heads (n - length heads) k no_head

pub wide_at : (labels : Labels) (n k : ℕ) → label_at (padded labels n) k ≡ label_at labels k
wide_at labels n k = blanks labels (n - length labels) k None

same_fill : {X Y : Type 0} (xs : List X) (ys : List Y) (n : ℕ) (d : X) (e : Y) → length xs ≡ length ys → length (filled d xs n) ≡ length (filled e ys n)
same_fill xs ys n d e h = grind (arith, common_steps, h)

pub wide_packed : (notes : Notes) (heads : Heads) (n : ℕ) → IsPacked notes heads → IsPacked (filled None notes n) (filled no_head heads n)
wide_packed notes heads n p = record {
  sizes = same_fill heads notes n no_head None p.sizes;
  parts = λ k s h.
      let free : (t : ℕ) → in_part k (note_at (filled None notes n) t) ≡ in_part k (note_at notes t) = λ t. ap (in_part k) (wide_note notes n t) in
      part_stays notes (filled None notes n) heads (filled no_head heads n) k (p.parts k s (sym (free s) ∙ h)) free (λ t g. wide_note notes n t) (wide_head heads n k);
}

wide_label : (heads : Heads) (n : ℕ) (o : Option Note) → label_in (filled no_head heads n) o ≡ label_in heads o
wide_label heads n None = refl
wide_label heads n (Some m) = ap (λ (h : Head). Some h.label) (wide_head heads n m.part)

wide_size : {X : Type 0} (node_entries : NodeEntries) (xs : List X) (n : ℕ) (d : X) (now : NodeEntries) → length node_entries ≡ length xs → AreWidened node_entries n now → length now ≡ length (filled d xs n)
wide_size node_entries xs n d now e w = let z = w.size in grind (arith, common_steps, z, e)

-- the notes by slot are as they were
wide_slot : (node_entries : NodeEntries) (notes : Notes) (n : ℕ) (now : NodeEntries) (s : ℕ) → length node_entries ≡ length notes → AreWidened node_entries n now → note_at (by_slot now (filled None notes n)) s ≡ note_at (by_slot node_entries notes) s
wide_slot node_entries notes n now s e w = slot_note now (filled None notes n) s (wide_size node_entries notes n None now e w) ∙ wide_note notes n (node_at now s) ∙ ap (note_at notes) (w.nodes s) ∙ sym (slot_note node_entries notes s e)

wide_named : (old new : Notes) (heads also : Heads) → AreNamed old heads → ((s : ℕ) → note_at new s ≡ note_at old s) → ((k : ℕ) → head_at also k ≡ head_at heads k) → AreNamed new also
wide_named old new heads also p notes heads_stay m s h =
    let back : (t : ℕ) → InPart new m t → InPart old m t = λ t g. sym (ap (in_part m) (notes t)) ∙ g in
    let was = p m s (back s h) in
    let name : name_of also m ≡ name_of heads m = ap (λ (x : Head). x.label.name) (heads_stay m) in
    let low : IsLowestIn new m (name_of heads m) = (ap (in_part m) (notes (name_of heads m)) ∙ was.0, λ t g. was.1 t (back t g)) in
    rw name low

pub wide_placed : (node_entries : NodeEntries) (notes : Notes) (heads : Heads) (n : ℕ) (now : NodeEntries) → IsStanding node_entries notes heads → AreWidened node_entries n now → IsStanding now (filled None notes n) (filled no_head heads n)
wide_placed node_entries notes heads n now w x = record {
  packed = wide_packed notes heads n w.packed;
  size = wide_size node_entries notes n None now w.size x;
  inverse = widened_inverse node_entries n now x w.inverse;
  named = wide_named (by_slot node_entries notes) (by_slot now (filled None notes n)) heads (filled no_head heads n) w.named (λ s. wide_slot node_entries notes n now s w.size x) (wide_head heads n);
}

padded_size : (labels : Labels) (node_entries : NodeEntries) (n : ℕ) (now : NodeEntries) → length labels ≡ length node_entries → AreWidened node_entries n now → length now ≡ length (padded labels n)
padded_size labels node_entries n now e w = let z = w.size in grind (arith, common_steps, z, e)

pub wide_labels : (node_entries : NodeEntries) (notes : Notes) (heads : Heads) (n : ℕ) (now : NodeEntries) → IsStanding node_entries notes heads → AreWidened node_entries n now → labels_by now (filled None notes n) (filled no_head heads n) ≡ padded (labels_by node_entries notes heads) n
wide_labels node_entries notes heads n now w x =
    let also : Heads = filled no_head heads n in
    let new : Notes = by_slot now (filled None notes n) in
    let old : Notes = by_slot node_entries notes in
    same_labels (labels_of new also) (padded (labels_of old heads) n)
    (length-map new (label_in also) ∙ slots_size now (filled None notes n) ∙ padded_size (labels_of old heads) node_entries n now (length-map old (label_in heads) ∙ slots_size node_entries notes) x)
    (λ s. labels_at also new s ∙ ap (label_in also) (wide_slot node_entries notes n now s w.size x) ∙ wide_label heads n (note_at old s) ∙ sym (wide_at (labels_of old heads) n s ∙ labels_at heads old s))

padded_long : (labels : Labels) (n : ℕ) → n ≤ length (padded labels n)
padded_long labels n = grind (arith, common_steps)

pub wide_fresh : (node_entries : NodeEntries) (notes : Notes) (heads : Heads) (n slot : ℕ) (now : NodeEntries) (new : Notes) (also : Heads) → labels_by now new also ≡ padded (labels_by node_entries notes heads) n → note_at (by_slot node_entries notes) slot ≡ None → note_at (by_slot now new) slot ≡ None
wide_fresh node_entries notes heads n slot now new also e fresh =
    no_note (by_slot now new) also slot (ap (λ (ls : Labels). label_at ls slot) e ∙ wide_at (labels_by node_entries notes heads) n slot ∙ labels_at heads (by_slot node_entries notes) slot ∙ ap (label_in heads) fresh)

wide_few : (labels : Labels) (n : ℕ) → n ≤ 2 ^ 32 → length labels ≤ 2 ^ 32 → length (padded labels n) ≤ 2 ^ 32
wide_few labels n h k = grind (arith, common_steps)

pub kept_wide : (node_entries : NodeEntries) (old : Notes) (heads : Heads) (now : NodeEntries) (new : Notes) (also : Heads) (before_first one two three four five room n : ℕ) → IsKept node_entries old heads before_first one two room → IsStanding now new also → labels_by now new also ≡ padded (labels_by node_entries old heads) n → n ≤ 2 ^ 32 → before_first ≤ three → one ≤ four → two ≤ five → IsKept now new also three four five room
kept_wide node_entries old heads now new also before_first one two three four five room n w p e lt first more rest =
    let f = w.few in
    let q = w.node_entries_room in
    let a = w.notes_room in
    let b = w.heads_room in
    let before = labels_by_size node_entries old heads in
    let old_size = w.standing.size in
    let after = labels_by_size now new also in
    let new_size = p.size in
    let few : length (padded (labels_by node_entries old heads) n) ≤ 2 ^ 32 = wide_few (labels_by node_entries old heads) n lt (omega (arith, f, before, old_size)) in
    let same : length (labels_by now new also) ≡ length (padded (labels_by node_entries old heads) n) = ap (λ (ls : Labels). length ls) e in
    record { standing = p; few = omega (arith, few, same, after, new_size); node_entries_room = omega (arith, q, first); notes_room = omega (arith, a, more); heads_room = omega (arith, b, rest) }
