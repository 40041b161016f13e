-- Who reaches whom, link by link: that is who is joined. The least that a mover of an island reaches there.
use Rattle.std.proofs.Common.{◌≡◌, ◌<◌, ◌≤◌, ◌+◌, ℕ, Bool, true, List, [], ◌∷◌, ◌||◌, ◌&&◌, ◌⊎◌, length, get_or, inl, inr, arith, refl, sym, ap, ◌∙◌}
use Rattle.std.specs.List.{position_or_len}
use Rattle.std.proofs.lemmas.Bool.{cases_lt, or_cases, or_left, or_right, and_from, and_parts, eqb-true, eq-eqb, false≢true}
use Rattle.std.proofs.lemmas.List.FromFn.{length-range_with_len, get_or-range_with_len}
use Rattle.std.proofs.lemmas.List.Sums.{passes_at_first, fails_before_first}
use Rattle.islands.specs.Links.{Edges, Linked, Leads, Joined, reaches}
use Rattle.islands.specs.Labels.{Labels, label_at, is_in, IsIn, slots_of, least_reached}
use Rattle.islands.specs.Laws.{ReachingIsJoined}
use Rattle.islands.proofs.JoinLemmas.{joined_both, joined_one, joined_more, joined_back, contains_head, pair_of, linked_tail}
use Rattle.islands.proofs.LabelLemmas.{in_is, some_short}

abbrev pub Reaches : Edges → ℕ → ℕ → Type 0
Reaches edges a b = reaches edges a b ≡ true

-- ---- one link more: each was joined to an end of it

abbrev touches : ℕ × ℕ → Edges → ℕ → Bool
touches e edges a = reaches edges a e.0 || reaches edges a e.1

abbrev Touches : ℕ × ℕ → Edges → ℕ → Type 0
Touches e edges a = touches e edges a ≡ true

reach_cases : (e : ℕ × ℕ) (edges : Edges) (a b : ℕ) → Reaches (e ∷ edges) a b → Reaches edges a b ⊎ (Touches e edges a × Touches e edges b)
reach_cases e edges a b h = elim (or_cases (reaches edges a b) (touches e edges a && touches e edges b) h) [
  | inl k ↦ inl k
  | inr k ↦ inr (and_parts (touches e edges a) (touches e edges b) k)
]

reach_over : (e : ℕ × ℕ) (edges : Edges) (a b : ℕ) → Reaches edges a b → Reaches (e ∷ edges) a b
reach_over e edges a b h = or_left (reaches edges a b) (touches e edges a && touches e edges b) h

reach_by : (e : ℕ × ℕ) (edges : Edges) (a b : ℕ) → Touches e edges a → Touches e edges b → Reaches (e ∷ edges) a b
reach_by e edges a b h k = or_right (reaches edges a b) (touches e edges a && touches e edges b) (and_from (touches e edges a) (touches e edges b) h k)

touch_on : (e : ℕ × ℕ) (edges : Edges) (a b : ℕ) → ((t : ℕ) → Reaches edges b t → Reaches edges a t) → Touches e edges b → Touches e edges a
touch_on e edges a b on h = elim (or_cases (reaches edges b e.0) (reaches edges b e.1) h) [
  | inl k ↦ or_left (reaches edges a e.0) (reaches edges a e.1) (on e.0 k)
  | inr k ↦ or_right (reaches edges a e.0) (reaches edges a e.1) (on e.1 k)
]

-- ---- each reaches itself, and it goes back and on

pub reach_self : (edges : Edges) (a : ℕ) → Reaches edges a a
reach_self [] a = eq-eqb a a refl
reach_self (e ∷ edges) a = reach_over e edges a a (reach_self edges a)

reach_same : (edges : Edges) (a b : ℕ) → a ≡ b → Reaches edges a b
reach_same edges a b h = ap (λ n. reaches edges a n) (sym h) ∙ reach_self edges a

reach_back : (edges : Edges) (a b : ℕ) → Reaches edges a b → Reaches edges b a
reach_back [] a b h = eq-eqb b a (sym (eqb-true a b h))
reach_back (e ∷ edges) a b h = elim (reach_cases e edges a b h) [
  | inl k ↦ reach_over e edges b a (reach_back edges a b k)
  | inr k ↦ reach_by e edges b a k.1 k.0
]

reach_on : (edges : Edges) (a b c : ℕ) → Reaches edges a b → Reaches edges b c → Reaches edges a c
reach_on [] a b c h k = eq-eqb a c (eqb-true a b h ∙ eqb-true b c k)
reach_on (e ∷ edges) a b c h k = elim (reach_cases e edges a b h) [
  | inl m ↦ elim (reach_cases e edges b c k) [
    | inl n ↦ reach_over e edges a c (reach_on edges a b c m n)
    | inr n ↦ reach_by e edges a c (touch_on e edges a b (λ t r. reach_on edges a b t m r) n.0) n.1
  ]
  | inr m ↦ elim (reach_cases e edges b c k) [
    | inl n ↦ reach_by e edges a c m.0 (touch_on e edges c b (λ t r. reach_on edges c b t (reach_back edges b c n) r) m.1)
    | inr n ↦ reach_by e edges a c m.0 n.1
  ]
]

-- ---- a path of links

linked_reach : (edges : Edges) (a b : ℕ) → Linked edges a b → Reaches edges a b
linked_reach [] a b h = absurd (elim h [ inl k ↦ omega (arith, k.1) | inr k ↦ omega (arith, k.1) ])
linked_reach (e ∷ edges) a b h =
    let first : (t : ℕ) → t ≡ e.0 → Touches e edges t = λ t k. or_left (reaches edges t e.0) (reaches edges t e.1) (reach_same edges t e.0 k) in
    let second : (t : ℕ) → t ≡ e.1 → Touches e edges t = λ t k. or_right (reaches edges t e.0) (reaches edges t e.1) (reach_same edges t e.1 k) in
    elim (pair_of e edges a b h) [
      | inl k ↦ elim k [
        | inl m ↦ reach_by e edges a b (first a m.0) (second b m.1)
        | inr m ↦ reach_by e edges a b (second a m.0) (first b m.1)
      ]
      | inr k ↦ reach_over e edges a b (linked_reach edges a b k)
    ]

leads_reach : (edges : Edges) (path : List ℕ) (a b : ℕ) → Leads (Linked edges) a path b → Reaches edges a b
leads_reach edges [] a b h = reach_same edges a b h
leads_reach edges (c ∷ path) a b h = reach_on edges a c b (linked_reach edges a c h.0) (leads_reach edges path c b h.1)

joined_tail : (e : ℕ × ℕ) (edges : Edges) (a b : ℕ) → Joined (Linked edges) a b → Joined (Linked (e ∷ edges)) a b
joined_tail e edges a b j = joined_more (Linked edges) (Linked (e ∷ edges)) a b (linked_tail e edges) j

touch_joined : (e : ℕ × ℕ) (edges : Edges) (a : ℕ) → ((t : ℕ) → Reaches edges a t → Joined (Linked edges) a t) → Touches e edges a → Joined (Linked (e ∷ edges)) a e.0
touch_joined e edges a on h = elim (or_cases (reaches edges a e.0) (reaches edges a e.1) h) [
  | inl k ↦ joined_tail e edges a e.0 (on e.0 k)
  | inr k ↦ joined_both (Linked (e ∷ edges)) a e.1 e.0 (joined_tail e edges a e.1 (on e.1 k)) (joined_one (Linked (e ∷ edges)) e.1 e.0 (inr (contains_head e edges)))
]

reach_joined : (edges : Edges) (a b : ℕ) → Reaches edges a b → Joined (Linked edges) a b
reach_joined [] a b h = ([], eqb-true a b h)
reach_joined (e ∷ edges) a b h = elim (reach_cases e edges a b h) [
  | inl k ↦ joined_tail e edges a b (reach_joined edges a b k)
  | inr k ↦ joined_both (Linked (e ∷ edges)) a e.0 b
      (touch_joined e edges a (λ t r. reach_joined edges a t r) k.0)
      (joined_back (e ∷ edges) b e.0 (touch_joined e edges b (λ t r. reach_joined edges b t r) k.1))
]

pub reaching_is_joined : ReachingIsJoined
reaching_is_joined edges a b = ((λ h. reach_joined edges a b h), (λ j. leads_reach edges j.0 a b j.1))

-- ---- the least that a mover reaches in its island

abbrev is_reached : Labels → ℕ → Edges → ℕ → ℕ → Bool
is_reached labels name edges slot other = is_in (label_at labels other) name && reaches edges slot other

slot_there : (labels : Labels) (slot : ℕ) → slot < length labels → get_or (slots_of labels) slot 0 ≡ slot
slot_there labels slot lt = let same : 0 + slot ≡ slot = omega arith in get_or-range_with_len 0 (length labels) slot 0 lt ∙ same

in_short : (labels : Labels) (name slot : ℕ) → IsIn labels name slot → slot < length labels
in_short labels name slot h = let l = in_is (label_at labels slot) name h in some_short labels slot l.0 l.1

pub least_below : (labels : Labels) (name : ℕ) (edges : Edges) (slot other : ℕ) → IsIn labels name other → Reaches edges slot other → least_reached labels name edges slot ≤ other
least_below labels name edges slot other h k =
    let p : ℕ → Bool = is_reached labels name edges slot in
    let here : p (get_or (slots_of labels) other 0) ≡ true = ap p (slot_there labels other (in_short labels name other h)) ∙ and_from (is_in (label_at labels other) name) (reaches edges slot other) h k in
    elim (cases_lt other (least_reached labels name edges slot)) [
      | inl lt ↦ absurd (false≢true (sym (fails_before_first p (slots_of labels) other 0 lt) ∙ here))
      | inr le ↦ le
    ]

pub least_there : (labels : Labels) (name : ℕ) (edges : Edges) (slot : ℕ) → IsIn labels name slot → IsIn labels name (least_reached labels name edges slot) × Reaches edges slot (least_reached labels name edges slot)
least_there labels name edges slot h =
    let p : ℕ → Bool = is_reached labels name edges slot in
    let low : ℕ = least_reached labels name edges slot in
    let below : low ≤ slot = least_below labels name edges slot slot h (reach_self edges slot) in
    let short = in_short labels name slot h in
    let size = length-range_with_len 0 (length labels) in
    let there : low < length labels = omega (arith, below, short) in
    let found : position_or_len p (slots_of labels) < length (slots_of labels) = omega (arith, there, size) in
    and_parts (is_in (label_at labels low) name) (reaches edges slot low) (sym (ap p (slot_there labels low there)) ∙ passes_at_first p (slots_of labels) 0 found)
