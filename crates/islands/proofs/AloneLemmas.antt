-- Parts of one mover: a mover that comes, and a part that is scattered.
use Rattle.std.proofs.Common.{◌≡◌, ◌≢◌, ℕ, ◌+◌, ◌<◌, List, [], ◌∷◌, ◌++◌, length, get_or, take, subst, Option, Some, None, true, false, inl, inr, arith, refl, sym, ap, ◌∙◌, slice_set, get_or-set_same, get_or-set_other}
use Rattle.std.specs.Prelude.{Contains, IsSome, cond}
use Rattle.std.proofs.lemmas.Bool.{cases_eq, false≢true}
use Rattle.std.proofs.lemmas.List.{length-set, length-map, take_more}
use Rattle.std.proofs.lemmas.List.Elements.{Contains-push, Contains-push_cases, Contains-append_left}
use Rattle.islands.specs.declared.threads.Note.{Note}
use Rattle.islands.specs.declared.threads.Head.{Head}
use Rattle.islands.specs.Labels.{Labels, label_at, is_in, own_label, split_by}
use Rattle.islands.specs.Merging.{scattered_from}
use Rattle.islands.specs.Links.{Edges}
use Rattle.islands.specs.Partition.{Inside}
use Rattle.islands.specs.Standing.{AreInverse, NodeEntries, node_at, slot_at}
use Rattle.islands.specs.Packed.{Notes, note_at, Heads, head_at, no_head, own_note, own_head, in_part, InPart, rank_of, next_of, rank_at, next_at, name_of, label_in, labels_of, labels_by, by_slot, IsPart, IsPacked, IsStanding, IsLowestIn, AreNamed, AreMembers, AreScattered}
use Rattle.islands.proofs.SlotLemmas.{same_labels}
use Rattle.islands.proofs.SplitLemmas.{scattered_at, scattered_size, split_out, split_size}
use Rattle.islands.proofs.PartLemmas.{part_case, part_some, part_of_some, one_part, not_part, short, part_stays, labels_at}
use Rattle.islands.proofs.StandingLemmas.{node_note, node_short, one_slot, slot_note, slots_size}
use Rattle.islands.proofs.LeavePartLemmas.{count_one}
use Rattle.islands.proofs.ListingLemmas.{named_test}
use Rattle.islands.proofs.PlacedLemmas.{node_in, slot_in}

-- ---- a part of one

no_next : (o : Option ℕ) (t : ℕ) → o ≡ None → o ≡ Some t → ⊥
no_next o t e f = cc

pub one_is_part : (notes : Notes) (heads : Heads) (k slot : ℕ) → note_at notes k ≡ Some (own_note k) → head_at heads k ≡ own_head k slot → ((s : ℕ) → InPart notes k s → s ≡ k) → IsPart notes heads k
one_is_part notes heads k slot note head only =
    let led : InPart notes k k = part_of_some k (note_at notes k) (own_note k) note refl in
    let rank : (s : ℕ) → InPart notes k s → rank_at notes s ≡ 0 = λ s h. ap (rank_at notes) (only s h) ∙ ap rank_of note in
    let next : (s : ℕ) → InPart notes k s → next_at notes s ≡ None = λ s h. ap (next_at notes) (only s h) ∙ ap next_of note in
    let first : (head_at heads k).first ≡ k = ap (λ (h : Head). h.first) head in
    let count : (head_at heads k).count ≡ 1 = ap (λ (h : Head). h.count) head in
    record {
      led = led;
      end = rank k led;
      first = ap (λ n. in_part k (note_at notes n)) first ∙ led;
      last = λ s h. let r = rank s h in omega (arith, r);
      next = λ s t h e. absurd (no_next (next_at notes s) t (next s h) e);
      nearest = λ s j h g lt. let r = rank s h in absurd (omega (arith, r, lt));
      apart = λ s j h g e. only s h ∙ sym (only j g);
      below = λ s h. let r = rank s h in omega (arith, r, count);
      size = count ∙ sym (count_one notes k led only);
    }

-- ---- a mover comes

abbrev notes_with : Notes → ℕ → Notes
notes_with notes node = slice_set notes node (Some (own_note node))

abbrev heads_with : Heads → ℕ → ℕ → Heads
heads_with heads node slot = slice_set heads node (own_head node slot)

note_with : (notes : Notes) (node s : ℕ) → s ≢ node → note_at (notes_with notes node) s ≡ note_at notes s
note_with notes node s away = get_or-set_other notes node s (Some (own_note node)) None away

note_here : (notes : Notes) (node : ℕ) → node < length notes → note_at (notes_with notes node) node ≡ Some (own_note node)
note_here notes node lt = get_or-set_same notes node (Some (own_note node)) None lt

head_with : (heads : Heads) (node slot k : ℕ) → k ≢ node → head_at (heads_with heads node slot) k ≡ head_at heads k
head_with heads node slot k away = get_or-set_other heads node k (own_head node slot) no_head away

head_here : (heads : Heads) (node slot : ℕ) → node < length heads → head_at (heads_with heads node slot) node ≡ own_head node slot
head_here heads node slot lt = get_or-set_same heads node (own_head node slot) no_head lt

-- no part is led from a node without a mover
none_led : (notes : Notes) (heads : Heads) (node s : ℕ) → IsPacked notes heads → note_at notes node ≡ None → InPart notes node s → ⊥
none_led notes heads node s p fresh h = false≢true (sym (ap (in_part node) fresh) ∙ (p.parts node s h).led)

alone_packed : (notes : Notes) (heads : Heads) (node slot : ℕ) → IsPacked notes heads → note_at notes node ≡ None → node < length notes → IsPacked (notes_with notes node) (heads_with heads node slot)
alone_packed notes heads node slot p fresh lt =
    let z = p.sizes in
    let there : node < length heads = omega (arith, lt, z) in
    record {
      sizes = length-set heads node (own_head node slot) ∙ z ∙ sym (length-set notes node (Some (own_note node)));
      parts = λ k s h. elim (cases_eq k node) [
        | inl e ↦ rw e (one_is_part (notes_with notes node) (heads_with heads node slot) node slot (note_here notes node lt) (head_here heads node slot there)
            (λ t g. elim (cases_eq t node) [ inl same ↦ same | inr away ↦ absurd (none_led notes heads node t p fresh (sym (ap (in_part node) (note_with notes node t away)) ∙ g)) ]))
        | inr other ↦
            let free : (t : ℕ) → in_part k (note_at (notes_with notes node) t) ≡ in_part k (note_at notes t) = λ t. elim (cases_eq t node) [
              | inl e ↦ ap (λ u. in_part k (note_at (notes_with notes node) u)) e ∙ ap (in_part k) (note_here notes node lt)
                  ∙ not_part node k (Some (own_note node)) (part_some node (own_note node) refl) (λ q. other (sym q)) ∙ sym (ap (λ u. in_part k (note_at notes u)) e ∙ ap (in_part k) fresh)
              | inr away ↦ ap (in_part k) (note_with notes node t away)
            ] in
            part_stays notes (notes_with notes node) heads (heads_with heads node slot) k (p.parts k s (sym (free s) ∙ h)) free
            (λ t g. note_with notes node t (λ e. false≢true (sym (ap (λ u. in_part k (note_at notes u)) e ∙ ap (in_part k) fresh) ∙ g)))
            (head_with heads node slot k other)
      ];
    }

-- what is known of the notes by slot once the mover has come
record HasCome (old : Notes) (heads : Heads) (node slot : ℕ) (new : Notes) (also : Heads) : Type 0 where
  size : length new ≡ length old
  here : note_at new slot ≡ Some (own_note node)
  others : (s : ℕ) → s ≢ slot → note_at new s ≡ note_at old s
  head : head_at also node ≡ own_head node slot
  heads_stay : (k : ℕ) → k ≢ node → head_at also k ≡ head_at heads k
  fresh : note_at old slot ≡ None
  none : (s : ℕ) → InPart old node s → ⊥

has_come : (node_entries : NodeEntries) (notes : Notes) (heads : Heads) (slot : ℕ) → IsStanding node_entries notes heads → note_at (by_slot node_entries notes) slot ≡ None → slot < length notes → HasCome (by_slot node_entries notes) heads (node_at node_entries slot) slot (by_slot node_entries (notes_with notes (node_at node_entries slot))) (heads_with heads (node_at node_entries slot) slot)
has_come node_entries notes heads slot w fresh lt =
    let node : ℕ = node_at node_entries slot in
    let z = w.size in
    let y = w.packed.sizes in
    let short = node_short node_entries slot w.inverse (omega (arith, lt, z)) in
    let there : node < length notes = omega (arith, short, z) in
    let size : length node_entries ≡ length (notes_with notes node) = z ∙ sym (length-set notes node (Some (own_note node))) in
    let none : note_at notes node ≡ None = sym (slot_note node_entries notes slot z) ∙ fresh in
    record {
      size = slots_size node_entries (notes_with notes node) ∙ sym (slots_size node_entries notes);
      here = slot_note node_entries (notes_with notes node) slot size ∙ note_here notes node there;
      others = λ s away. slot_note node_entries (notes_with notes node) s size ∙ note_with notes node (node_at node_entries s) (λ e. away (one_slot node_entries s slot w.inverse e)) ∙ sym (slot_note node_entries notes s z);
      head = head_here heads node slot (omega (arith, there, y));
      heads_stay = λ k away. head_with heads node slot k away;
      fresh = fresh;
      none = λ s h. none_led notes heads node (node_at node_entries s) w.packed none (slot_in node_entries notes heads node s w h);
    }

come_named : (old : Notes) (heads : Heads) (node slot : ℕ) (new : Notes) (also : Heads) → AreNamed old heads → HasCome old heads node slot new also → AreNamed new also
come_named old heads node slot new also p w m s h = elim (cases_eq m node) [
  | inl e ↦
      let name : name_of also m ≡ slot = ap (name_of also) e ∙ ap (λ (x : Head). x.label.name) w.head in
      let only : (t : ℕ) → InPart new m t → t ≡ slot = λ t g. elim (cases_eq t slot) [
        | inl same ↦ same
        | inr away ↦ absurd (w.none t (ap (λ i. in_part i (note_at old t)) (sym e) ∙ sym (ap (in_part m) (w.others t away)) ∙ g))
      ] in
      (ap (λ t. in_part m (note_at new t)) name ∙ part_of_some m (note_at new slot) (own_note node) w.here (sym e), λ t g. let q = only t g in omega (arith, q, name))
  | inr other ↦
      let off : (t : ℕ) → InPart new m t → t ≢ slot = λ t g e. other (one_part m node (note_at new slot) (ap (λ u. in_part m (note_at new u)) (sym e) ∙ g) (part_of_some node (note_at new slot) (own_note node) w.here refl)) in
      let was = p m s (sym (ap (in_part m) (w.others s (off s h))) ∙ h) in
      let name : name_of also m ≡ name_of heads m = ap (λ (x : Head). x.label.name) (w.heads_stay m other) in
      let apart : name_of heads m ≢ slot = λ e. false≢true (sym (ap (λ t. in_part m (note_at old t)) e ∙ ap (in_part m) w.fresh) ∙ was.0) in
      let low : IsLowestIn new m (name_of heads m) = (ap (in_part m) (w.others (name_of heads m) apart) ∙ was.0, λ t g. was.1 t (sym (ap (in_part m) (w.others t (off t g))) ∙ g)) in
      rw name low
]

come_label : (old : Notes) (heads : Heads) (node slot : ℕ) (new : Notes) (also : Heads) (s : ℕ) (o : Option Note) → HasCome old heads node slot new also → note_at old s ≡ o → label_in also o ≡ label_in heads o
come_label old heads node slot new also s None w e = refl
come_label old heads node slot new also s (Some n) w e = ap (λ (h : Head). Some h.label) (w.heads_stay n.part (λ q. w.none s (part_of_some node (note_at old s) n e q)))

come_labels : (old : Notes) (heads : Heads) (node slot : ℕ) (new : Notes) (also : Heads) → slot < length old → HasCome old heads node slot new also → labels_of new also ≡ slice_set (labels_of old heads) slot (Some (own_label slot))
come_labels old heads node slot new also lt w =
    let before = length-map old (label_in heads) in
    same_labels (labels_of new also) (slice_set (labels_of old heads) slot (Some (own_label slot)))
    (length-map new (label_in also) ∙ w.size ∙ sym (length-set (labels_of old heads) slot (Some (own_label slot)) ∙ before))
    (λ s. labels_at also new s ∙ elim (cases_eq s slot) [
      | inl e ↦ ap (label_in also) (ap (note_at new) e ∙ w.here) ∙ ap (λ (h : Head). Some h.label) w.head
          ∙ sym (ap (label_at (slice_set (labels_of old heads) slot (Some (own_label slot)))) e ∙ get_or-set_same (labels_of old heads) slot (Some (own_label slot)) None (omega (arith, lt, before)))
      | inr away ↦ ap (label_in also) (w.others s away) ∙ come_label old heads node slot new also s (note_at old s) w refl
          ∙ sym (get_or-set_other (labels_of old heads) slot s (Some (own_label slot)) None away ∙ labels_at heads old s)
    ])

pub alone_placed : (node_entries : NodeEntries) (notes : Notes) (heads : Heads) (slot : ℕ) → IsStanding node_entries notes heads → note_at (by_slot node_entries notes) slot ≡ None → slot < length notes
    → IsStanding node_entries (slice_set notes (node_at node_entries slot) (Some (own_note (node_at node_entries slot)))) (slice_set heads (node_at node_entries slot) (own_head (node_at node_entries slot) slot))
alone_placed node_entries notes heads slot w fresh lt =
    let z = w.size in
    let short = node_short node_entries slot w.inverse (omega (arith, lt, z)) in
    record {
      packed = alone_packed notes heads (node_at node_entries slot) slot w.packed (sym (slot_note node_entries notes slot z) ∙ fresh) (omega (arith, short, z));
      size = z ∙ sym (length-set notes (node_at node_entries slot) (Some (own_note (node_at node_entries slot))));
      inverse = w.inverse;
      named = come_named (by_slot node_entries notes) heads (node_at node_entries slot) slot (by_slot node_entries (notes_with notes (node_at node_entries slot))) (heads_with heads (node_at node_entries slot) slot) w.named (has_come node_entries notes heads slot w fresh lt);
    }

pub alone_labels : (node_entries : NodeEntries) (notes : Notes) (heads : Heads) (slot : ℕ) → IsStanding node_entries notes heads → note_at (by_slot node_entries notes) slot ≡ None → slot < length notes
    → labels_by node_entries (slice_set notes (node_at node_entries slot) (Some (own_note (node_at node_entries slot)))) (slice_set heads (node_at node_entries slot) (own_head (node_at node_entries slot) slot)) ≡ slice_set (labels_by node_entries notes heads) slot (Some (own_label slot))
alone_labels node_entries notes heads slot w fresh lt =
    let z = w.size in let y = slots_size node_entries notes in
    come_labels (by_slot node_entries notes) heads (node_at node_entries slot) slot (by_slot node_entries (notes_with notes (node_at node_entries slot))) (heads_with heads (node_at node_entries slot) slot) (omega (arith, lt, z, y)) (has_come node_entries notes heads slot w fresh lt)

-- ---- a part is scattered

-- the slots of the part's nodes are listed
listed : (node_entries : NodeEntries) (old : Notes) (heads : Heads) (k m : ℕ) (members : List ℕ) → IsStanding node_entries old heads → AreMembers (by_slot node_entries old) k members → InPart old k m → Contains members (slot_at node_entries m)
listed node_entries old heads k m members w list h = (list.all (slot_at node_entries m)).1 (node_in node_entries old heads k m w h)

member : (node_entries : NodeEntries) (old : Notes) (heads : Heads) (k m : ℕ) (members : List ℕ) → IsStanding node_entries old heads → AreMembers (by_slot node_entries old) k members → Contains members (slot_at node_entries m) → InPart old k m
member node_entries old heads k m members w list h = sym (ap (in_part k) (node_note node_entries old m w.size w.inverse)) ∙ (list.all (slot_at node_entries m)).0 h

not_listed : (node_entries : NodeEntries) (old : Notes) (heads : Heads) (k m : ℕ) (members : List ℕ) → IsStanding node_entries old heads → AreMembers (by_slot node_entries old) k members → in_part k (note_at old m) ≡ false → Contains members (slot_at node_entries m) → ⊥
not_listed node_entries old heads k m members w list off h = false≢true (sym off ∙ member node_entries old heads k m members w list h)

-- a part that isn't led by a member of the scattered one has none of its members
led_apart : (old : Notes) (heads : Heads) (k m t : ℕ) → IsPacked old heads → in_part k (note_at old m) ≡ false → InPart old m t → InPart old k t → ⊥
led_apart old heads k m t p off h on = false≢true (sym off ∙ ap (λ j. in_part j (note_at old m)) (one_part k m (note_at old t) on h) ∙ (p.parts m t h).led)

scattered_one : (node_entries : NodeEntries) (old : Notes) (heads : Heads) (k m t : ℕ) (members : List ℕ) (new : Notes) (also : Heads) → IsStanding node_entries old heads → AreMembers (by_slot node_entries old) k members → AreScattered node_entries old heads members new also → InPart old k m → InPart new m t → t ≡ m
scattered_one node_entries old heads k m t members new also w list x on h = elim (part_case k (note_at old t)) [
  | inl was ↦ one_part t m (Some (own_note t)) (part_some t (own_note t) refl) (sym (ap (in_part m) (x.notes_alone t (listed node_entries old heads k t members w list was))) ∙ h)
  | inr away ↦
      let was : InPart old m t = sym (ap (in_part m) (x.notes_kept t (not_listed node_entries old heads k t members w list away))) ∙ h in
      absurd (false≢true (sym away ∙ ap (λ j. in_part j (note_at old t)) (one_part k m (note_at old m) on (w.packed.parts m t was).led) ∙ was))
]

scattered_packed : (node_entries : NodeEntries) (old : Notes) (heads : Heads) (k : ℕ) (members : List ℕ) (new : Notes) (also : Heads) → IsStanding node_entries old heads → AreMembers (by_slot node_entries old) k members → AreScattered node_entries old heads members new also → IsPacked new also
scattered_packed node_entries old heads k members new also w list x = record {
  sizes = x.heads_size ∙ w.packed.sizes ∙ sym x.size;
  parts = λ m s h. elim (part_case k (note_at old m)) [
    | inl on ↦
        one_is_part new also m (slot_at node_entries m) (x.notes_alone m (listed node_entries old heads k m members w list on)) (x.heads_alone m (listed node_entries old heads k m members w list on)) (λ t g. scattered_one node_entries old heads k m t members new also w list x on g)
    | inr off ↦
        let free : (t : ℕ) → in_part m (note_at new t) ≡ in_part m (note_at old t) = λ t. elim (part_case k (note_at old t)) [
          | inl on ↦ ap (in_part m) (x.notes_alone t (listed node_entries old heads k t members w list on)) ∙ not_part t m (Some (own_note t)) (part_some t (own_note t) refl) (λ e. false≢true (sym off ∙ ap (λ u. in_part k (note_at old u)) (sym e) ∙ on))
              ∙ sym (not_part k m (note_at old t) on (λ e. led_apart old heads k m t w.packed off (ap (λ j. in_part j (note_at old t)) (sym e) ∙ on) on))
          | inr away ↦ ap (in_part m) (x.notes_kept t (not_listed node_entries old heads k t members w list away))
        ] in
        part_stays old new heads also m (w.packed.parts m s (sym (free s) ∙ h)) free
        (λ t g. x.notes_kept t (λ c. led_apart old heads k m t w.packed off g (member node_entries old heads k t members w list c)))
        (x.heads_kept m (not_listed node_entries old heads k m members w list off))
  ];
}

-- ---- the slots of a part that is scattered

-- what is known of the notes by slot: a member is a part of its own, at the node where it stands
record AreAlone (node_entries : NodeEntries) (old : Notes) (heads : Heads) (k : ℕ) (new : Notes) (also : Heads) : Type 0 where
  size : length new ≡ length old
  notes_alone : (s : ℕ) → InPart old k s → note_at new s ≡ Some (own_note (node_at node_entries s))
  heads_alone : (s : ℕ) → InPart old k s → head_at also (node_at node_entries s) ≡ own_head (node_at node_entries s) s
  notes_kept : (s : ℕ) → in_part k (note_at old s) ≡ false → note_at new s ≡ note_at old s
  heads_kept : (m s : ℕ) → InPart old m s → m ≢ k → head_at also m ≡ head_at heads m
  apart : (m s t : ℕ) → InPart old m s → InPart old k t → m ≢ k → node_at node_entries t ≢ m

are_alone : (node_entries : NodeEntries) (old : Notes) (heads : Heads) (k : ℕ) (members : List ℕ) (new : Notes) (also : Heads) → IsStanding node_entries old heads → AreMembers (by_slot node_entries old) k members → AreScattered node_entries old heads members new also → AreAlone node_entries (by_slot node_entries old) heads k (by_slot node_entries new) also
are_alone node_entries old heads k members new also w list x =
    let size : length node_entries ≡ length new = w.size ∙ sym x.size in
    let here : (s : ℕ) → InPart (by_slot node_entries old) k s → Contains members (slot_at node_entries (node_at node_entries s)) = λ s h. listed node_entries old heads k (node_at node_entries s) members w list (slot_in node_entries old heads k s w h) in
    -- a part of another is led from outside
    let outside : (m s : ℕ) → InPart (by_slot node_entries old) m s → m ≢ k → in_part k (note_at old m) ≡ false = λ m s h other. not_part m k (note_at old m) (w.packed.parts m (node_at node_entries s) (slot_in node_entries old heads m s w h)).led other in
    record {
      size = slots_size node_entries new ∙ sym (slots_size node_entries old);
      notes_alone = λ s h. slot_note node_entries new s size ∙ x.notes_alone (node_at node_entries s) (here s h);
      heads_alone = λ s h. x.heads_alone (node_at node_entries s) (here s h) ∙ ap (own_head (node_at node_entries s)) (w.inverse.back s);
      notes_kept = λ s off. slot_note node_entries new s size ∙ x.notes_kept (node_at node_entries s) (not_listed node_entries old heads k (node_at node_entries s) members w list (sym (ap (in_part k) (slot_note node_entries old s w.size)) ∙ off)) ∙ sym (slot_note node_entries old s w.size);
      heads_kept = λ m s h other. x.heads_kept m (not_listed node_entries old heads k m members w list (outside m s h other));
      apart = λ m s t h g other e. false≢true (sym (outside m s h other) ∙ ap (λ u. in_part k (note_at old u)) (sym e) ∙ slot_in node_entries old heads k t w g);
    }

-- whoever is in a part now is alone there, or was in that part
alone_named : (node_entries : NodeEntries) (old : Notes) (heads : Heads) (k : ℕ) (new : Notes) (also : Heads) → AreInverse node_entries → AreNamed old heads → AreAlone node_entries old heads k new also → AreNamed new also
alone_named node_entries old heads k new also w p x m s h = elim (part_case k (note_at old s)) [
  | inl on ↦
      let node : node_at node_entries s ≡ m = one_part (node_at node_entries s) m (note_at new s) (part_of_some (node_at node_entries s) (note_at new s) (own_note (node_at node_entries s)) (x.notes_alone s on) refl) h in
      let name : name_of also m ≡ s = ap (name_of also) (sym node) ∙ ap (λ (y : Head). y.label.name) (x.heads_alone s on) in
      let only : (t : ℕ) → InPart new m t → s ≡ t = λ t g. elim (part_case k (note_at old t)) [
        | inl also_on ↦
            let there : node_at node_entries t ≡ m = one_part (node_at node_entries t) m (note_at new t) (part_of_some (node_at node_entries t) (note_at new t) (own_note (node_at node_entries t)) (x.notes_alone t also_on) refl) g in
            one_slot node_entries s t w (node ∙ sym there)
        | inr off ↦
            let was : InPart old m t = sym (ap (in_part m) (x.notes_kept t off)) ∙ g in
            absurd (x.apart m t s was on (λ e. false≢true (sym off ∙ ap (λ j. in_part j (note_at old t)) (sym e) ∙ was)) node)
      ] in
      (ap (λ t. in_part m (note_at new t)) name ∙ h, λ t g. let q = only t g in omega (arith, q, name))
  | inr off ↦
      let was : InPart old m s = sym (ap (in_part m) (x.notes_kept s off)) ∙ h in
      let other : m ≢ k = λ e. false≢true (sym off ∙ ap (λ j. in_part j (note_at old s)) (sym e) ∙ was) in
      let outside : (t : ℕ) → InPart old m t → in_part k (note_at old t) ≡ false = λ t g. not_part m k (note_at old t) g other in
      let low = p m s was in
      let name : name_of also m ≡ name_of heads m = ap (λ (y : Head). y.label.name) (x.heads_kept m s was other) in
      let back : (t : ℕ) → InPart new m t → InPart old m t = λ t g. elim (part_case k (note_at old t)) [
        | inl on ↦ absurd (x.apart m s t was on other (one_part (node_at node_entries t) m (note_at new t) (part_of_some (node_at node_entries t) (note_at new t) (own_note (node_at node_entries t)) (x.notes_alone t on) refl) g))
        | inr away ↦ sym (ap (in_part m) (x.notes_kept t away)) ∙ g
      ] in
      let still : IsLowestIn new m (name_of heads m) = (ap (in_part m) (x.notes_kept (name_of heads m) (outside (name_of heads m) low.0)) ∙ low.0, λ t g. low.1 t (back t g)) in
      rw name still
]

label_kept : (node_entries : NodeEntries) (old : Notes) (heads : Heads) (k s : ℕ) (new : Notes) (also : Heads) → AreAlone node_entries old heads k new also → in_part k (note_at old s) ≡ false → (o : Option Note) → note_at old s ≡ o → label_in also o ≡ label_in heads o
label_kept node_entries old heads k s new also x off None e = refl
label_kept node_entries old heads k s new also x off (Some n) e =
    let here : InPart old n.part s = part_of_some n.part (note_at old s) n e refl in
    ap (λ (h : Head). Some h.label) (x.heads_kept n.part s here (λ q. false≢true (sym off ∙ ap (λ j. in_part j (note_at old s)) (sym q) ∙ here)))

alone_as_scattered : (node_entries : NodeEntries) (old : Notes) (heads : Heads) (name k v : ℕ) (new : Notes) (also : Heads) → AreNamed old heads → InPart old k v → name_of heads k ≡ name → AreAlone node_entries old heads k new also → labels_of new also ≡ scattered_from 0 name (labels_of old heads)
alone_as_scattered node_entries old heads name k v new also p there named x =
    same_labels (labels_of new also) (scattered_from 0 name (labels_of old heads))
    (length-map new (label_in also) ∙ x.size ∙ sym (length-map old (label_in heads)) ∙ sym (scattered_size 0 name (labels_of old heads)))
    (λ s.
    let right : label_at (scattered_from 0 name (labels_of old heads)) s ≡ cond (in_part k (note_at old s)) (Some (own_label s)) (label_at (labels_of old heads) s) =
    scattered_at 0 name (labels_of old heads) s ∙ ap (λ t. cond t (Some (own_label (0 + s))) (label_at (labels_of old heads) s)) (named_test old heads name k v s p there named)
    ∙ (let same : 0 + s ≡ s = omega arith in ap (λ n. cond (in_part k (note_at old s)) (Some (own_label n)) (label_at (labels_of old heads) s)) same) in
    labels_at also new s ∙ elim (part_case k (note_at old s)) [
      | inl on ↦ ap (label_in also) (x.notes_alone s on) ∙ ap (λ (h : Head). Some h.label) (x.heads_alone s on) ∙ sym (right ∙ rw on refl)
      | inr off ↦ ap (label_in also) (x.notes_kept s off) ∙ label_kept node_entries old heads k s new also x off (note_at old s) refl ∙ sym (right ∙ rw off (labels_at heads old s))
    ])

pub scattered_placed : (node_entries : NodeEntries) (old : Notes) (heads : Heads) (k : ℕ) (members : List ℕ) (new : Notes) (also : Heads) → IsStanding node_entries old heads → AreMembers (by_slot node_entries old) k members → AreScattered node_entries old heads members new also → IsStanding node_entries new also
scattered_placed node_entries old heads k members new also w list x = record {
  packed = scattered_packed node_entries old heads k members new also w list x;
  size = w.size ∙ sym x.size;
  inverse = w.inverse;
  named = alone_named node_entries (by_slot node_entries old) heads k (by_slot node_entries new) also w.inverse w.named (are_alone node_entries old heads k members new also w list x);
}

pub scattered_labels : (node_entries : NodeEntries) (old : Notes) (heads : Heads) (name k : ℕ) (members : List ℕ) (new : Notes) (also : Heads) → IsStanding node_entries old heads → InPart old k k → name_of heads k ≡ name → AreMembers (by_slot node_entries old) k members → AreScattered node_entries old heads members new also
    → labels_by node_entries new also ≡ scattered_from 0 name (labels_by node_entries old heads)
scattered_labels node_entries old heads name k members new also w led named list x =
    alone_as_scattered node_entries (by_slot node_entries old) heads name k (slot_at node_entries k) (by_slot node_entries new) also w.named (node_in node_entries old heads k k w led) named (are_alone node_entries old heads k members new also w list x)

-- one member more
pub scatter_more : (node_entries : NodeEntries) (old : Notes) (heads : Heads) (members : List ℕ) (n : ℕ) (now : Notes) (also : Heads) → n < length members → get_or members n 0 < length old → length node_entries ≡ length old → length heads ≡ length old → AreInverse node_entries → AreScattered node_entries old heads (take n members) now also
    → AreScattered node_entries old heads (take (n + 1) members) (slice_set now (node_at node_entries (get_or members n 0)) (Some (own_note (node_at node_entries (get_or members n 0))))) (slice_set also (node_at node_entries (get_or members n 0)) (own_head (node_at node_entries (get_or members n 0)) (get_or members n 0)))
scatter_more node_entries old heads members n now also lt short long sizes inverse w =
    let m : ℕ = get_or members n 0 in
    let v : ℕ = node_at node_entries m in
    let z = w.size in let y = w.heads_size in
    let below = node_short node_entries m inverse (omega (arith, short, long)) in
    let notes_there : v < length now = omega (arith, below, z, long) in
    let heads_there : v < length also = omega (arith, below, y, sizes, long) in
    let own : slot_at node_entries v ≡ m = inverse.back m in
    let before : (k : ℕ) → k ≢ v → Contains (take n members ++ m ∷ []) (slot_at node_entries k) → Contains (take n members) (slot_at node_entries k) = λ k away h.
    elim (Contains-push_cases (take n members) m (slot_at node_entries k) h) [ inl g ↦ g | inr e ↦ absurd (away (sym (inverse.forth k) ∙ ap (node_at node_entries) (sym e))) ] in
    let last : (k : ℕ) → k ≡ v → Contains (take n members ++ m ∷ []) (slot_at node_entries k) = λ k e.
    let P : ℕ → Type 0 = λ u. Contains (take n members ++ m ∷ []) u in subst P (sym (ap (slot_at node_entries) e ∙ own)) (Contains-push (take n members) m) in
    rw (take_more members n 0 lt) (record {
      size = length-set now v (Some (own_note v)) ∙ z;
      heads_size = length-set also v (own_head v m) ∙ y;
      notes_alone = λ k h. elim (cases_eq k v) [
        | inl e ↦ ap (note_at (slice_set now v (Some (own_note v)))) e ∙ get_or-set_same now v (Some (own_note v)) None notes_there ∙ ap (λ u. Some (own_note u)) (sym e)
        | inr away ↦ get_or-set_other now v k (Some (own_note v)) None away ∙ w.notes_alone k (before k away h)
      ];
      heads_alone = λ k h. elim (cases_eq k v) [
        | inl e ↦ ap (head_at (slice_set also v (own_head v m))) e ∙ get_or-set_same also v (own_head v m) no_head heads_there ∙ sym (ap (λ u. own_head u (slot_at node_entries u)) e ∙ ap (own_head v) own)
        | inr away ↦ get_or-set_other also v k (own_head v m) no_head away ∙ w.heads_alone k (before k away h)
      ];
      notes_kept = λ k h. get_or-set_other now v k (Some (own_note v)) None (λ e. h (last k e)) ∙ w.notes_kept k (λ g. h (Contains-append_left (take n members) (m ∷ []) (slot_at node_entries k) g));
      heads_kept = λ k h. get_or-set_other also v k (own_head v m) no_head (λ e. h (last k e)) ∙ w.heads_kept k (λ g. h (Contains-append_left (take n members) (m ∷ []) (slot_at node_entries k) g));
    })

-- the ends of links in the island are still there
pub scattered_ends : (node_entries : NodeEntries) (old : Notes) (heads : Heads) (k : ℕ) (members : List ℕ) (new : Notes) (also : Heads) (edges : Edges) → IsStanding node_entries old heads → InPart old k k → AreMembers (by_slot node_entries old) k members → AreScattered node_entries old heads members new also → Inside (labels_by node_entries old heads) (name_of heads k) edges
    → (a b : ℕ) → Contains edges (a, b) → IsSome (note_at (by_slot node_entries new) a) × IsSome (note_at (by_slot node_entries new) b)
scattered_ends node_entries old heads k members new also edges w led list x inside a b h =
    let o = inside a b h in
    let P : Option Note → Type 0 = λ y. IsSome y in
    let alone = are_alone node_entries old heads k members new also w list x in
    let there : (s : ℕ) → is_in (label_at (labels_by node_entries old heads) s) (name_of heads k) ≡ true → IsSome (note_at (by_slot node_entries new) s) = λ s i.
    subst P (sym (alone.notes_alone s (sym (named_test (by_slot node_entries old) heads (name_of heads k) k (slot_at node_entries k) s w.named (node_in node_entries old heads k k w led) refl) ∙ i))) refl in
    (there a o.0, there b o.1)

-- a split of an island that isn't there is nothing
pub nobody_split : (labels : Labels) (name : ℕ) (edges : Edges) → ((s : ℕ) → is_in (label_at labels s) name ≡ false) → labels ≡ split_by labels name edges
nobody_split labels name edges none = same_labels labels (split_by labels name edges) (sym (split_size labels name edges)) (λ s. sym (split_out labels name edges s (none s)))
