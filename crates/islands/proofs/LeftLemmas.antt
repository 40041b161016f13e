-- What is left of the labels, and of the names of parts, once a mover has left its part: it has changed places with the
-- one at the front, and the front has left the thread.
use Rattle.std.proofs.Common.{◌≡◌, ◌≢◌, ℕ, ◌+◌, ◌<◌, length, Option, Some, None, false, ◌||◌, inl, inr, arith, refl, sym, ap, ◌∙◌, slice_set, get_or-set_same, get_or-set_other, eq-eqb}
use Rattle.std.specs.Prelude.{cond}
use Rattle.std.proofs.lemmas.Bool.{cases_eq, false≢true, lt-ltb, le-ltb}
use Rattle.std.proofs.lemmas.List.{length-set, length-map}
use Rattle.std.proofs.lemmas.List.Sums.{position_or_len_is}
use Rattle.std.specs.Option.{option_map_or}
use Rattle.islands.specs.declared.threads.Note.{Note}
use Rattle.islands.specs.declared.threads.Head.{Head}
use Rattle.islands.specs.declared.label.Label.{Label}
use Rattle.islands.specs.declared.label.IslandState.TheVariants.{Loose}
use Rattle.islands.specs.Labels.{Labels, label_at, is_in, relabel, relabelled, lowest_member, left_behind, taken_out}
use Rattle.islands.specs.Standing.{AreExchanged, AreInverse, NodeEntries, node_at, slot_at}
use Rattle.islands.specs.Packed.{Notes, note_at, Heads, head_at, in_part, InPart, part_in, name_of, label_in, labels_of, by_slot, labels_by, AreNamed, IsLowestIn, IsPart, IsPacked, IsStanding, IsDropped, dropped_head, labelled_head, HasNoneBelow, IsLeftBy}
use Rattle.islands.proofs.LabelLemmas.{relabel_at}
use Rattle.islands.proofs.SlotLemmas.{same_labels}
use Rattle.islands.proofs.PartLemmas.{part_case, one_part, short, labels_at, label_of_part, in_name}
use Rattle.islands.proofs.StandingLemmas.{one_slot, part_of_in, same_in, same_label, slot_note, slots_size}
use Rattle.islands.proofs.JoinPartLemmas.{head_set, head_kept, labelled_packed}
use Rattle.islands.proofs.LeavePartLemmas.{dropped_packed, gone_note, none_left, stays, still_led}
use Rattle.islands.proofs.PlacedLemmas.{led_short, slot_in}

-- the mover in the slot is gone, and each other is in the part that it was in, where the notes are by slot
pub record IsGone (old : Notes) (slot : ℕ) (new : Notes) : Type 0 where
  pub size : length new ≡ length old
  pub gone : note_at new slot ≡ None
  pub others : (s : ℕ) → s ≢ slot → part_in (note_at new s) ≡ part_in (note_at old s)

pub is_gone : (node_entries now : NodeEntries) (old : Notes) (heads : Heads) (k slot : ℕ) (new : Notes) (also : Heads) → IsStanding node_entries old heads → InPart (by_slot node_entries old) k slot
    → AreExchanged node_entries slot (slot_at node_entries (head_at heads k).first) now → IsDropped old heads k new also → IsGone (by_slot node_entries old) slot (by_slot now new)
is_gone node_entries now old heads k slot new also w there x d =
    let f : ℕ = (head_at heads k).first in
    let at : InPart old k (node_at node_entries slot) = slot_in node_entries old heads k slot w there in
    let p : IsPart old heads k = w.packed.parts k (node_at node_entries slot) at in
    let front : ℕ = slot_at node_entries f in
    let here : node_at now slot ≡ f = x.first ∙ w.inverse.forth f in
    let news : length new ≡ length old = ap length d.notes_are ∙ length-set old f None in
    let size : length now ≡ length new = x.size ∙ w.size ∙ sym news in
    record {
      size = slots_size now new ∙ x.size ∙ sym (slots_size node_entries old);
      gone = slot_note now new slot size ∙ ap (note_at new) here ∙ gone_note old heads k new also p d;
      others = λ s away.
          let off : node_at now s ≢ f = λ e. away (one_slot now s slot x.inverse (e ∙ sym here)) in
          ap part_in (slot_note now new s size ∙ stays old heads k new also (node_at now s) d off)
          ∙ (elim (cases_eq s front) [
            | inl e ↦ ap (λ t. part_in (note_at old t)) (ap (node_at now) e ∙ x.second) ∙ part_of_in k (note_at old (node_at node_entries slot)) at
                ∙ sym (ap (λ t. part_in (note_at old (node_at node_entries t))) e ∙ ap (λ t. part_in (note_at old t)) (w.inverse.forth f) ∙ part_of_in k (note_at old f) p.first)
            | inr far ↦ ap (λ t. part_in (note_at old t)) (x.others s away far)
          ])
          ∙ ap part_in (sym (slot_note node_entries old s w.size));
    }

-- ---- the labels without the mover

label_here : (old : Notes) (heads : Heads) (k slot : ℕ) → InPart old k slot → label_at (labels_of old heads) slot ≡ Some (head_at heads k).label
label_here old heads k slot there = labels_at heads old slot ∙ label_of_part heads k (note_at old slot) there

rest_labels : (old : Notes) (heads : Heads) (k slot : ℕ) (new : Notes) → InPart old k slot → IsGone old slot new → slice_set (labels_of old heads) slot None ≡ labels_of new heads
rest_labels old heads k slot new there g =
    let before = length-map old (label_in heads) in
    let lt = short old k slot there in
    same_labels (slice_set (labels_of old heads) slot None) (labels_of new heads)
    (length-set (labels_of old heads) slot None ∙ before ∙ sym g.size ∙ sym (length-map new (label_in heads)))
    (λ s. elim (cases_eq s slot) [
      | inl e ↦ ap (label_at (slice_set (labels_of old heads) slot None)) e ∙ get_or-set_same (labels_of old heads) slot None None (omega (arith, lt, before))
          ∙ sym (ap (label_at (labels_of new heads)) e ∙ labels_at heads new slot ∙ ap (label_in heads) g.gone)
      | inr away ↦ get_or-set_other (labels_of old heads) slot s None None away ∙ labels_at heads old s ∙ sym (same_label heads (note_at new s) (note_at old s) (g.others s away)) ∙ sym (labels_at heads new s)
    ])

-- who of the others has the name of the part
rest_test : (old : Notes) (heads : Heads) (k slot : ℕ) (new : Notes) (s : ℕ) → AreNamed old heads → InPart old k slot → IsGone old slot new → is_in (label_in heads (note_at new s)) (name_of heads k) ≡ in_part k (note_at new s)
rest_test old heads k slot new s p there g = elim (cases_eq s slot) [
  | inl e ↦ ap (λ o. is_in (label_in heads o) (name_of heads k)) (ap (note_at new) e ∙ g.gone) ∙ sym (ap (in_part k) (ap (note_at new) e ∙ g.gone))
  | inr away ↦ ap (λ l. is_in l (name_of heads k)) (same_label heads (note_at new s) (note_at old s) (g.others s away)) ∙ in_name old heads k slot s p there ∙ sym (same_in k (note_at new s) (note_at old s) (g.others s away))
]

rest_in : (old : Notes) (heads : Heads) (k slot : ℕ) (new : Notes) (s : ℕ) → AreNamed old heads → InPart old k slot → IsGone old slot new → is_in (label_at (labels_of new heads) s) (name_of heads k) ≡ in_part k (note_at new s)
rest_in old heads k slot new s p there g = ap (λ l. is_in l (name_of heads k)) (labels_at heads new s) ∙ rest_test old heads k slot new s p there g

without_is : (old : Notes) (heads : Heads) (k slot : ℕ) (new : Notes) → InPart old k slot → IsGone old slot new → taken_out (labels_of old heads) slot ≡ left_behind (lowest_member (name_of heads k) (labels_of new heads)) (name_of heads k) (labels_of new heads)
unfolding taken_out
without_is old heads k slot new there g =
    ap (λ o. option_map_or (λ (label : Label). left_behind (lowest_member label.name (slice_set (labels_of old heads) slot None)) label.name (slice_set (labels_of old heads) slot None)) o (labels_of old heads)) (label_here old heads k slot there)
    ∙ ap (λ (ls : Labels). left_behind (lowest_member (name_of heads k) ls) (name_of heads k) ls) (rest_labels old heads k slot new there g)

-- ---- some are left behind

lowest_left : (old : Notes) (heads : Heads) (k slot : ℕ) (new : Notes) (low : ℕ) → AreNamed old heads → InPart old k slot → IsGone old slot new → IsLowestIn new k low → lowest_member (name_of heads k) (labels_of new heads) ≡ low
lowest_left old heads k slot new low p there g is =
    let z = length-map new (label_in heads) in
    let lt = short new k low is.0 in
    position_or_len_is (λ o. is_in o (name_of heads k)) (labels_of new heads) low None (omega (arith, lt, z))
    (λ s below. rest_in old heads k slot new s p there g ∙ elim (part_case k (note_at new s)) [
      | inl on ↦ let le = is.1 s on in absurd (omega (arith, le, below))
      | inr off ↦ off
    ])
    (λ q. rest_in old heads k slot new low p there g ∙ is.0)

-- the part has this label now, and the others have what they had
pub record IsRelabelled (heads : Heads) (k : ℕ) (label : Label) (also : Heads) : Type 0 where
  pub here : (head_at also k).label ≡ label
  pub others : (m : ℕ) → m ≢ k → (head_at also m).label ≡ (head_at heads m).label

off_label : (heads also : Heads) (k : ℕ) (label : Label) (o : Option Note) → IsRelabelled heads k label also → in_part k o ≡ false → label_in also o ≡ label_in heads o
off_label heads also k label None r off = refl
off_label heads also k label (Some n) r off = ap (λ l. Some l) (r.others n.part (λ e. false≢true (sym off ∙ eq-eqb n.part k e)))

left_labels : (old : Notes) (heads : Heads) (k slot : ℕ) (new : Notes) (also : Heads) (low : ℕ) → AreNamed old heads → InPart old k slot → IsGone old slot new → IsLowestIn new k low → IsRelabelled heads k (record { name = low; state = Loose }) also
    → labels_of new also ≡ taken_out (labels_of old heads) slot
left_labels old heads k slot new also low p there g is r =
    let label : Label = record { name = low; state = Loose } in
    let name : ℕ = name_of heads k in
    let rest : Labels = labels_of new heads in
    let z = length-map new (label_in heads) in
    let lt = short new k low is.0 in
    same_labels (labels_of new also) (relabelled name name label rest)
    (length-map new (label_in also) ∙ sym z ∙ sym (length-map rest (relabel name name label)))
    (λ s.
    let right : label_at (relabelled name name label rest) s ≡ cond (in_part k (note_at new s) || in_part k (note_at new s)) (Some label) (label_at rest s) =
    relabel_at name name label rest s ∙ ap (λ t. cond (t || t) (Some label) (label_at rest s)) (rest_in old heads k slot new s p there g) in
    labels_at also new s ∙ elim (part_case k (note_at new s)) [
      | inl on ↦ label_of_part also k (note_at new s) on ∙ ap (λ l. Some l) r.here ∙ sym (right ∙ rw on refl)
      | inr off ↦ off_label heads also k label (note_at new s) r off ∙ sym (right ∙ rw off (labels_at heads new s))
    ])
    ∙ sym (without_is old heads k slot new there g
    ∙ ap (λ n. left_behind n name rest) (lowest_left old heads k slot new low p there g is)
    ∙ rw (lt-ltb low (length rest) (omega (arith, lt, z))) refl)

-- whoever is in another part still is
same_others : (old : Notes) (k slot m s : ℕ) (new : Notes) → InPart old k slot → IsGone old slot new → m ≢ k → InPart old m s → InPart new m s
same_others old k slot m s new there g other h =
    let away : s ≢ slot = λ e. other (one_part m k (note_at old slot) (ap (λ t. in_part m (note_at old t)) (sym e) ∙ h) there) in
    same_in m (note_at new s) (note_at old s) (g.others s away) ∙ h

was_in : (old : Notes) (slot m s : ℕ) (new : Notes) → IsGone old slot new → InPart new m s → InPart old m s
was_in old slot m s new g h = elim (cases_eq s slot) [
  | inl e ↦ absurd (false≢true (sym (ap (in_part m) (ap (note_at new) e ∙ g.gone)) ∙ h))
  | inr away ↦ sym (same_in m (note_at new s) (note_at old s) (g.others s away)) ∙ h
]

other_named : (old : Notes) (heads : Heads) (k slot m s : ℕ) (new : Notes) (also : Heads) → AreNamed old heads → InPart old k slot → IsGone old slot new → m ≢ k → name_of also m ≡ name_of heads m → InPart new m s → IsLowestIn new m (name_of also m)
other_named old heads k slot m s new also p there g other name h =
    let was = p m s (was_in old slot m s new g h) in
    rw name (same_others old k slot m (name_of heads m) new there g other was.0, λ t i. was.1 t (was_in old slot m t new g i))

left_named : (old : Notes) (heads : Heads) (k slot : ℕ) (new : Notes) (also : Heads) (low : ℕ) → AreNamed old heads → InPart old k slot → IsGone old slot new → IsLowestIn new k low → IsRelabelled heads k (record { name = low; state = Loose }) also → AreNamed new also
left_named old heads k slot new also low p there g is r m s h = elim (cases_eq m k) [
  | inl e ↦ let name : name_of also m ≡ low = ap (name_of also) e ∙ ap (λ (l : Label). l.name) r.here in rw (name, e) is
  | inr other ↦ other_named old heads k slot m s new also p there g other (ap (λ (l : Label). l.name) (r.others m other)) h
]

-- ---- nobody is left behind

gone_labels : (old : Notes) (heads : Heads) (k slot : ℕ) (new : Notes) (also : Heads) → AreNamed old heads → InPart old k slot → IsGone old slot new → ((s : ℕ) → InPart new k s → ⊥) → IsRelabelled heads k (head_at heads k).label also
    → labels_of new also ≡ taken_out (labels_of old heads) slot
gone_labels old heads k slot new also p there g none r =
    let name : ℕ = name_of heads k in
    let rest : Labels = labels_of new heads in
    let off : (s : ℕ) → in_part k (note_at new s) ≡ false = λ s. elim (part_case k (note_at new s)) [ inl on ↦ absurd (none s on) | inr away ↦ away ] in
    let nowhere : lowest_member name rest ≡ length rest = position_or_len_is (λ o. is_in o name) rest (length rest) None (omega arith) (λ s below. rest_in old heads k slot new s p there g ∙ off s) (λ q. absurd (omega (arith, q))) in
    same_labels (labels_of new also) rest (length-map new (label_in also) ∙ sym (length-map new (label_in heads)))
    (λ s. labels_at also new s ∙ off_label heads also k (head_at heads k).label (note_at new s) r (off s) ∙ sym (labels_at heads new s))
    ∙ sym (without_is old heads k slot new there g ∙ ap (λ n. left_behind n name rest) nowhere ∙ rw (le-ltb (length rest) (length rest) (omega arith)) refl)

gone_named : (old : Notes) (heads : Heads) (k slot : ℕ) (new : Notes) (also : Heads) → AreNamed old heads → InPart old k slot → IsGone old slot new → ((s : ℕ) → InPart new k s → ⊥) → IsRelabelled heads k (head_at heads k).label also → AreNamed new also
gone_named old heads k slot new also p there g none r m s h = elim (cases_eq m k) [
  | inl e ↦ absurd (none s (ap (λ i. in_part i (note_at new s)) (sym e) ∙ h))
  | inr other ↦ other_named old heads k slot m s new also p there g other (ap (λ (l : Label). l.name) (r.others m other)) h
]

-- ---- both

dropped_label : (old : Notes) (heads : Heads) (k : ℕ) (new : Notes) (also : Heads) (m : ℕ) → k < length heads → IsDropped old heads k new also → (head_at also m).label ≡ (head_at heads m).label
dropped_label old heads k new also m lt d = ap (λ (hs : Heads). (head_at hs m).label) d.heads_are ∙ elim (cases_eq m k) [
  | inl e ↦ rw e (ap (λ (h : Head). h.label) (head_set heads k (dropped_head old heads k) lt))
  | inr away ↦ ap (λ (h : Head). h.label) (head_kept heads k m (dropped_head old heads k) away)
]

-- what is known once the mover's node has left its thread
pub record HasLeft (node_entries : NodeEntries) (old : Notes) (heads : Heads) (slot : ℕ) (k : ℕ) (now : NodeEntries) (new : Notes) (also : Heads) : Type 0 where
  pub packed : IsPacked new also
  pub size : length now ≡ length new
  pub notes_size : length new ≡ length old
  pub inverse : AreInverse now
  pub gone : IsGone (by_slot node_entries old) slot (by_slot now new)
  pub there : InPart (by_slot node_entries old) k slot
  pub labels : (m : ℕ) → (head_at also m).label ≡ (head_at heads m).label
  pub led : 0 < (head_at also k).count → InPart new k k
  pub none : (head_at also k).count ≡ 0 → (s : ℕ) → InPart (by_slot now new) k s → ⊥

pub has_left : (node_entries now : NodeEntries) (old : Notes) (heads : Heads) (k slot : ℕ) (new : Notes) (also : Heads) → IsStanding node_entries old heads → InPart (by_slot node_entries old) k slot
    → AreExchanged node_entries slot (slot_at node_entries (head_at heads k).first) now → IsDropped old heads k new also → HasLeft node_entries old heads slot k now new also
has_left node_entries now old heads k slot new also w there x d =
    let led : InPart old k k = (w.packed.parts k (node_at node_entries slot) (slot_in node_entries old heads k slot w there)).led in
    let packed = dropped_packed old heads k new also w.packed led d in
    let news : length new ≡ length old = ap length d.notes_are ∙ length-set old (head_at heads k).first None in
    let size : length now ≡ length new = x.size ∙ w.size ∙ sym news in
    record {
      packed = packed;
      size = size;
      notes_size = news;
      inverse = x.inverse;
      gone = is_gone node_entries now old heads k slot new also w there x d;
      there = there;
      labels = λ m. dropped_label old heads k new also m (led_short old heads k w.packed led) d;
      led = λ more. still_led old heads k new also w.packed led d more;
      none = λ e s h. none_left new also k (node_at now s) packed e (sym (ap (in_part k) (slot_note now new s size)) ∙ h);
    }

-- the name of the part is that of the mover which left, or still stands
pub left_by : (node_entries : NodeEntries) (old : Notes) (heads : Heads) (slot k : ℕ) (now : NodeEntries) (new : Notes) (also : Heads) → AreNamed (by_slot node_entries old) heads → HasLeft node_entries old heads slot k now new also → IsLeftBy (by_slot now new) also k slot
left_by node_entries old heads slot k now new also p l =
    let was = p k slot l.there in
    let name : name_of also k ≡ name_of heads k = ap (λ (x : Label). x.name) (l.labels k) in
    record {
      gone = λ t h e. false≢true (sym (ap (in_part k) (ap (note_at (by_slot now new)) e ∙ l.gone.gone)) ∙ h);
      low = λ t h. let le = was.1 t (was_in (by_slot node_entries old) slot k t (by_slot now new) l.gone h) in omega (arith, le, name);
      home = λ away. ap (λ n. in_part k (note_at (by_slot now new) n)) name
          ∙ same_in k (note_at (by_slot now new) (name_of heads k)) (note_at (by_slot node_entries old) (name_of heads k)) (l.gone.others (name_of heads k) (λ e. away (name ∙ e))) ∙ was.0;
    }

pub record Leaves (node_entries : NodeEntries) (old : Notes) (heads : Heads) (slot : ℕ) (now : NodeEntries) (new : Notes) (also : Heads) : Type 0 where
  pub standing : IsStanding now new also
  pub labels : labels_by now new also ≡ taken_out (labels_by node_entries old heads) slot

pub leaves_some : (node_entries : NodeEntries) (old : Notes) (heads : Heads) (slot k : ℕ) (now : NodeEntries) (new : Notes) (also : Heads) (low : ℕ) → AreNamed (by_slot node_entries old) heads → HasLeft node_entries old heads slot k now new also → 0 < (head_at also k).count → IsLowestIn (by_slot now new) k low
    → Leaves node_entries old heads slot now new (slice_set also k (labelled_head also k (record { name = low; state = Loose })))
leaves_some node_entries old heads slot k now new also low p l more is =
    let label : Label = record { name = low; state = Loose } in
    let led = l.led more in
    let lt = led_short new also k l.packed led in
    let r : IsRelabelled heads k label (slice_set also k (labelled_head also k label)) = record {
      here = ap (λ (h : Head). h.label) (head_set also k (labelled_head also k label) lt);
      others = λ m away. ap (λ (h : Head). h.label) (head_kept also k m (labelled_head also k label) away) ∙ l.labels m;
    } in
    record {
      standing = record {
        packed = labelled_packed new also k label l.packed led;
        size = l.size;
        inverse = l.inverse;
        named = left_named (by_slot node_entries old) heads k slot (by_slot now new) (slice_set also k (labelled_head also k label)) low p l.there l.gone is r;
      };
      labels = left_labels (by_slot node_entries old) heads k slot (by_slot now new) (slice_set also k (labelled_head also k label)) low p l.there l.gone is r;
    }

pub leaves_none : (node_entries : NodeEntries) (old : Notes) (heads : Heads) (slot k : ℕ) (now : NodeEntries) (new : Notes) (also : Heads) → AreNamed (by_slot node_entries old) heads → HasLeft node_entries old heads slot k now new also → (head_at also k).count ≡ 0 → Leaves node_entries old heads slot now new also
leaves_none node_entries old heads slot k now new also p l e =
    let r : IsRelabelled heads k (head_at heads k).label also = record { here = l.labels k; others = λ m away. l.labels m } in
    record {
      standing = record {
        packed = l.packed;
        size = l.size;
        inverse = l.inverse;
        named = gone_named (by_slot node_entries old) heads k slot (by_slot now new) also p l.there l.gone (l.none e) r;
      };
      labels = gone_labels (by_slot node_entries old) heads k slot (by_slot now new) also p l.there l.gone (l.none e) r;
    }

-- ---- the lowest of those that are left

pub none_below : (notes : Notes) (heads : Heads) (k slot : ℕ) → IsLeftBy notes heads k slot → name_of heads k ≡ slot → HasNoneBelow notes k (slot + 1)
none_below notes heads k slot l e t h = let le = l.low t h in let away = l.gone t h in omega (arith, le, away, e)

pub dropped_size : (old : Notes) (heads : Heads) (k : ℕ) (new : Notes) (also : Heads) → IsDropped old heads k new also → length also ≡ length heads
dropped_size old heads k new also d = ap length d.heads_are ∙ length-set heads k (dropped_head old heads k)

pub first_short : (node_entries : NodeEntries) (notes : Notes) (heads : Heads) (k : ℕ) → IsStanding node_entries notes heads → InPart notes k k → (head_at heads k).first < length node_entries
first_short node_entries notes heads k w led = let lt = short notes k (head_at heads k).first (w.packed.parts k k led).first in let z = w.size in omega (arith, lt, z)
