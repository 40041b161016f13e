-- Reading along the thread of a part: whom the walk has passed.
use Rattle.std.proofs.Common.{◌≡◌, ◌≢◌, ℕ, suc, ◌<◌, ◌≤◌, length, Option, Some, None, ◌⊎◌, inl, inr, arith, sym, ap, ◌∙◌}
use Rattle.std.specs.Prelude.{min}
use Rattle.std.proofs.lemmas.Bool.{cases_lt, cases_eq}
use Rattle.islands.specs.Packed.{Notes, note_at, Heads, head_at, in_part, InPart, rank_at, next_at, ahead, IsPart, IsLowestIn, by_slot}
use Rattle.islands.specs.Standing.{AreInverse, NodeEntries, node_at, slot_at}
use Rattle.islands.proofs.PartLemmas.{goes_down}
use Rattle.islands.proofs.StandingLemmas.{node_note, slot_note}

-- the walk has passed the member
abbrev pub Passed : Notes → ℕ → Option ℕ → ℕ → Type 0
Passed notes k at s = InPart notes k s × (ahead notes at ≤ rank_at notes s)

-- the walk is at a member
abbrev pub IsAlong : Notes → ℕ → Option ℕ → Type 0
IsAlong notes k at = (t : ℕ) → at ≡ Some t → InPart notes k t

pub none_passed : (notes : Notes) (heads : Heads) (k s : ℕ) → IsPart notes heads k → Passed notes k (Some (head_at heads k).first) s → ⊥
none_passed notes heads k s p h = let l = p.last s h.0 in let m = h.1 in absurd (omega (arith, l, m))

pub along_starts : (notes : Notes) (heads : Heads) (k : ℕ) → IsPart notes heads k → IsAlong notes k (Some (head_at heads k).first)
along_starts notes heads k p t e = let same : (head_at heads k).first ≡ t = cc in ap (λ n. in_part k (note_at notes n)) (sym same) ∙ p.first

pub all_passed : (notes : Notes) (k s : ℕ) (at : Option ℕ) → at ≡ None → InPart notes k s → Passed notes k at s
all_passed notes k s at e h = let none : ahead notes at ≡ 0 = ap (ahead notes) e in (h, omega (arith, none))

-- from a member to the next
pub record GoesOn (notes : Notes) (k t : ℕ) (at later : Option ℕ) : Type 0 where
  pub along : IsAlong notes k later
  pub lower : ahead notes later < ahead notes at
  pub here : Passed notes k later t
  pub fresh : Passed notes k at t → ⊥
  pub still : (s : ℕ) → Passed notes k at s → Passed notes k later s
  pub only : (s : ℕ) → Passed notes k later s → (s ≡ t) ⊎ Passed notes k at s

pub goes_on : (notes : Notes) (heads : Heads) (k t : ℕ) (at later : Option ℕ) → IsPart notes heads k → InPart notes k t → at ≡ Some t → later ≡ next_at notes t → GoesOn notes k t at later
goes_on notes heads k t at later p h e f =
    let down = goes_down notes heads k t p h in
    let now : ahead notes at ≡ suc (rank_at notes t) = ap (ahead notes) e in
    let then : ahead notes later ≡ ahead notes (next_at notes t) = ap (ahead notes) f in
    record {
      along = λ u g. (p.next t u h (sym f ∙ g)).0;
      lower = omega (arith, down, now, then);
      here = (h, omega (arith, down, then));
      fresh = λ g. let m = g.1 in absurd (omega (arith, m, now));
      still = λ s g. let m = g.1 in (g.0, omega (arith, m, now, then, down));
      only = λ s g. elim (cases_eq s t) [
        | inl same ↦ inl same
        | inr away ↦ elim (cases_lt (rank_at notes s) (rank_at notes t)) [
          | inl lt ↦ let near = p.nearest t s h g.0 lt in let m = g.1 in absurd (omega (arith, near, m, then))
          | inr le ↦ let apart : rank_at notes s ≢ rank_at notes t = λ q. away (p.apart s t g.0 h q) in inr (g.0, omega (arith, le, apart, now))
        ]
      ];
    }

-- ---- the lowest

-- a member that is no higher than any that was passed, by their slots
pub record IsLowestPassed (node_entries : NodeEntries) (notes : Notes) (k : ℕ) (at : Option ℕ) (low : ℕ) : Type 0 where
  pub here : InPart (by_slot node_entries notes) k low
  pub least : (t : ℕ) → Passed notes k at t → low ≤ slot_at node_entries t

pub lowest_starts : (node_entries : NodeEntries) (notes : Notes) (heads : Heads) (k : ℕ) → IsPart notes heads k → length node_entries ≡ length notes → AreInverse node_entries → IsLowestPassed node_entries notes k (Some (head_at heads k).first) (slot_at node_entries k)
lowest_starts node_entries notes heads k p e w = record {
  here = ap (in_part k) (node_note node_entries notes k e w) ∙ p.led;
  least = λ t h. absurd (none_passed notes heads k t p h);
}

pub lowest_goes : (node_entries : NodeEntries) (notes : Notes) (k t : ℕ) (at later : Option ℕ) (low : ℕ) → length node_entries ≡ length notes → AreInverse node_entries → InPart notes k t → GoesOn notes k t at later → IsLowestPassed node_entries notes k at low → IsLowestPassed node_entries notes k later (min low (slot_at node_entries t))
lowest_goes node_entries notes k t at later low e w here on is = elim (cases_lt low (slot_at node_entries t)) [
  | inl lt ↦ let least : min low (slot_at node_entries t) ≡ low = omega (arith, lt) in rw least (record {
    here = is.here;
    least = λ s h. elim (on.only s h) [ inl same ↦ let q : slot_at node_entries s ≡ slot_at node_entries t = ap (slot_at node_entries) same in omega (arith, q, lt) | inr g ↦ is.least s g ];
  })
  | inr le ↦ let least : min low (slot_at node_entries t) ≡ slot_at node_entries t = omega (arith, le) in rw least (record {
    here = ap (in_part k) (node_note node_entries notes t e w) ∙ here;
    least = λ s h. elim (on.only s h) [ inl same ↦ let q : slot_at node_entries s ≡ slot_at node_entries t = ap (slot_at node_entries) same in omega (arith, q) | inr g ↦ let m = is.least s g in omega (arith, m, le) ];
  })
]

pub lowest_ends : (node_entries : NodeEntries) (notes : Notes) (k : ℕ) (at : Option ℕ) (low : ℕ) → at ≡ None → length node_entries ≡ length notes → AreInverse node_entries → IsLowestPassed node_entries notes k at low → IsLowestIn (by_slot node_entries notes) k low
lowest_ends node_entries notes k at low e size w is = (
  is.here,
  λ s h.
      let le = is.least (node_at node_entries s) (all_passed notes k (node_at node_entries s) at e (sym (ap (in_part k) (slot_note node_entries notes s size)) ∙ h)) in
      let back = w.back s in
      omega (arith, le, back),
)
