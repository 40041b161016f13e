-- A node that leaves its part from the front: what holds of parts holds of those that stay.
use Rattle.std.proofs.Common.{◌≡◌, ◌≢◌, ℕ, zero, suc, ◌+◌, ◌<◌, [], ◌∷◌, length, Option, Some, None, inl, inr, arith, refl, sym, ap, ◌∙◌, slice_set, get_or-set_same, get_or-set_other}
use Rattle.std.specs.Prelude.{◌-◌}
use Rattle.std.proofs.lemmas.Bool.{cases_eq, false≢true}
use Rattle.std.proofs.lemmas.List.{length-set}
use Rattle.islands.specs.declared.threads.Head.{Head}
use Rattle.islands.specs.Packed.{Notes, note_at, Heads, head_at, in_part, InPart, rank_of, next_of, rank_at, next_at, counted, ahead, IsPart, IsPacked, or_first, dropped_head, IsDropped}
use Rattle.islands.proofs.PartLemmas.{bit, count_cons, count_same, ahead_same, part_case, part_stays, not_part, one_part, short}
use Rattle.islands.proofs.JoinPartLemmas.{head_set, head_kept}

-- one member fewer
pub count_gone : (k : ℕ) (notes : Notes) (slot : ℕ) → InPart notes k slot → counted k (slice_set notes slot None) + 1 ≡ counted k notes
count_gone k [] slot h = absurd (false≢true h)
count_gone k (o ∷ notes) zero h = let one : bit (in_part k o) ≡ 1 = ap bit h in omega (arith, one, count_cons k o notes, count_cons k None notes)
count_gone k (o ∷ notes) (suc slot) h = let rest : counted k (slice_set notes slot None) + 1 ≡ counted k notes = count_gone k notes slot h in omega (arith, rest, count_cons k o notes, count_cons k o (slice_set notes slot None))

-- a part of one
pub count_one : (notes : Notes) (k : ℕ) → InPart notes k k → ((s : ℕ) → InPart notes k s → s ≡ k) → counted k notes ≡ 1
count_one notes k h only =
    let rest : counted k (slice_set notes k None) ≡ counted k [] = count_same k k (slice_set notes k None) [] (λ s. elim (cases_eq s k) [
      | inl e ↦ ap (λ t. in_part k (note_at (slice_set notes k None) t)) e ∙ ap (in_part k) (get_or-set_same notes k None None (short notes k k h))
      | inr away ↦ ap (in_part k) (get_or-set_other notes k s None None away) ∙ elim (part_case k (note_at notes s)) [ inl on ↦ absurd (away (only s on)) | inr off ↦ off ]
    ]) in
    let gone = count_gone k notes k h in
    let none : counted k [] ≡ 0 = refl in
    omega (arith, rest, gone, none)

pub gone_note : (old : Notes) (heads : Heads) (k : ℕ) (new : Notes) (also : Heads) → IsPart old heads k → IsDropped old heads k new also → note_at new (head_at heads k).first ≡ None
gone_note old heads k new also p d = ap (λ (ns : Notes). note_at ns (head_at heads k).first) d.notes_are ∙ get_or-set_same old (head_at heads k).first None None (short old k (head_at heads k).first p.first)

pub stays : (old : Notes) (heads : Heads) (k : ℕ) (new : Notes) (also : Heads) (s : ℕ) → IsDropped old heads k new also → s ≢ (head_at heads k).first → note_at new s ≡ note_at old s
stays old heads k new also s d away = ap (λ (ns : Notes). note_at ns s) d.notes_are ∙ get_or-set_other old (head_at heads k).first s None None away

-- what is known of one that stays
pub record IsStaying (old : Notes) (heads : Heads) (k : ℕ) (new : Notes) (s : ℕ) : Type 0 where
  pub here : InPart old k s
  pub same : note_at new s ≡ note_at old s
  pub in_new : InPart new k s
  pub lower : rank_at old s < rank_at old (head_at heads k).first

staying : (old : Notes) (heads : Heads) (k : ℕ) (new : Notes) (also : Heads) (s : ℕ) → IsPart old heads k → IsDropped old heads k new also → InPart old k s → s ≢ (head_at heads k).first → IsStaying old heads k new s
staying old heads k new also s p d h away =
    let same : note_at new s ≡ note_at old s = stays old heads k new also s d away in
    let le = p.last s h in
    let apart : rank_at old s ≢ rank_at old (head_at heads k).first = λ q. away (p.apart s (head_at heads k).first h p.first q) in
    record { here = h; same = same; in_new = ap (in_part k) same ∙ h; lower = omega (arith, le, apart) }

who_stays : (old : Notes) (heads : Heads) (k : ℕ) (new : Notes) (also : Heads) (s : ℕ) → IsPart old heads k → IsDropped old heads k new also → InPart new k s → IsStaying old heads k new s
who_stays old heads k new also s p d h = elim (cases_eq s (head_at heads k).first) [
  | inl e ↦ absurd (false≢true (sym (ap (λ t. in_part k (note_at new t)) e ∙ ap (in_part k) (gone_note old heads k new also p d)) ∙ h))
  | inr away ↦ staying old heads k new also s p d (sym (ap (in_part k) (stays old heads k new also s d away)) ∙ h) away
]

-- where another member is there, the thread goes on from the first
goes_next : (old : Notes) (heads : Heads) (k s : ℕ) (o : Option ℕ) → IsPart old heads k → InPart old k s → rank_at old s < rank_at old (head_at heads k).first → next_at old (head_at heads k).first ≡ o → (t : ℕ) × (o ≡ Some t)
goes_next old heads k s None p h lt e =
    let near = p.nearest (head_at heads k).first s p.first h lt in
    let none : ahead old (next_at old (head_at heads k).first) ≡ 0 = ap (ahead old) e in
    absurd (omega (arith, near, none))
goes_next old heads k s (Some t) p h lt e = (t, refl)

lower_stays : (old : Notes) (heads : Heads) (k : ℕ) (new : Notes) (also : Heads) (s : ℕ) → IsPart old heads k → IsDropped old heads k new also → InPart old k s → rank_at old s < rank_at old (head_at heads k).first → IsStaying old heads k new s
lower_stays old heads k new also s p d h lt = staying old heads k new also s p d h (λ e. let same : rank_at old s ≡ rank_at old (head_at heads k).first = ap (rank_at old) e in absurd (omega (arith, lt, same)))

pub dropped_is_part : (old : Notes) (heads : Heads) (k : ℕ) (new : Notes) (also : Heads) (v : ℕ) → IsPart old heads k → IsDropped old heads k new also → k < length heads → InPart new k v → IsPart new also k
dropped_is_part old heads k new also v p d long there =
    let f : ℕ = (head_at heads k).first in
    let one = who_stays old heads k new also v p d there in
    let above = one.lower in
    let next = goes_next old heads k v (next_at old f) p one.here one.lower refl in
    let t : ℕ = next.0 in
    let e : next_at old f ≡ Some t = next.1 in
    let head : head_at also k ≡ dropped_head old heads k = ap (λ (hs : Heads). head_at hs k) d.heads_are ∙ head_set heads k (dropped_head old heads k) long in
    let first : (head_at also k).first ≡ t = ap (λ (h : Head). h.first) head ∙ ap (λ o. or_first o k) e in
    let count : (head_at also k).count ≡ (head_at heads k).count - 1 = ap (λ (h : Head). h.count) head in
    let then = p.next f t p.first e in
    let top = lower_stays old heads k new also t p d then.0 then.1 in
    let bottom = p.end in
    let leader = lower_stays old heads k new also k p d p.led (omega (arith, above, bottom)) in
    let who : (s : ℕ) → InPart new k s → IsStaying old heads k new s = λ s h. who_stays old heads k new also s p d h in
    let new_top : rank_at new (head_at also k).first ≡ rank_at old t = ap (rank_at new) first ∙ ap rank_of top.same in
    record {
      led = leader.in_new;
      end = ap rank_of leader.same ∙ p.end;
      first = ap (λ n. in_part k (note_at new n)) first ∙ top.in_new;
      last = λ s h.
          let a = who s h in let r = ap rank_of a.same in
          let near = p.nearest f s p.first a.here a.lower in
          let on : ahead old (next_at old f) ≡ suc (rank_at old t) = ap (ahead old) e in
          omega (arith, near, on, r, new_top);
      next = λ s u h g.
          let a = who s h in
          let m = p.next s u a.here (sym (ap next_of a.same) ∙ g) in
          let lt = m.1 in let low = a.lower in
          let b = lower_stays old heads k new also u p d m.0 (omega (arith, lt, low)) in
          let r = ap rank_of a.same in let q = ap rank_of b.same in
          (b.in_new, omega (arith, lt, r, q));
      nearest = λ s j h g lt.
          let a = who s h in let b = who j g in
          let r = ap rank_of a.same in let q = ap rank_of b.same in
          let near = p.nearest s j a.here b.here (omega (arith, lt, r, q)) in
          let on : ahead new (next_at new s) ≡ ahead old (next_at old s) = ap (λ o. ahead new (next_of o)) a.same
          ∙ ahead_same old new (next_at old s) (λ u w. let m = p.next s u a.here w in let under = m.1 in let low = a.lower in ap rank_of (lower_stays old heads k new also u p d m.0 (omega (arith, under, low))).same) in
          omega (arith, q, near, on);
      apart = λ s j h g w. let a = who s h in let b = who j g in p.apart s j a.here b.here (sym (ap rank_of a.same) ∙ w ∙ ap rank_of b.same);
      below = λ s h. let a = who s h in let r = ap rank_of a.same in let low = a.lower in let most = p.below f p.first in omega (arith, r, low, most, count);
      size =
          let fewer = count_gone k old f p.first in
          let now : counted k new ≡ counted k (slice_set old f None) = ap (counted k) d.notes_are in
          let was = p.size in
          omega (arith, fewer, now, was, count);
    }

pub dropped_packed : (old : Notes) (heads : Heads) (k : ℕ) (new : Notes) (also : Heads) → IsPacked old heads → InPart old k k → IsDropped old heads k new also → IsPacked new also
dropped_packed old heads k new also all led d =
    let p = all.parts k k led in
    let f : ℕ = (head_at heads k).first in
    let long : k < length heads = let lt = short old k k led in let z = all.sizes in omega (arith, lt, z) in
    record {
      sizes = ap length d.heads_are ∙ length-set heads k (dropped_head old heads k) ∙ all.sizes ∙ sym (ap length d.notes_are ∙ length-set old f None);
      parts = λ m s h. elim (cases_eq m k) [
        | inl e ↦ rw e (dropped_is_part old heads k new also s p d long (ap (λ i. in_part i (note_at new s)) (sym e) ∙ h))
        | inr other ↦
            let free : (t : ℕ) → in_part m (note_at new t) ≡ in_part m (note_at old t) = λ t. elim (cases_eq t f) [
              | inl e ↦ ap (λ u. in_part m (note_at new u)) e ∙ ap (in_part m) (gone_note old heads k new also p d)
                  ∙ sym (ap (λ u. in_part m (note_at old u)) e ∙ not_part k m (note_at old f) p.first (λ q. other (sym q)))
              | inr away ↦ ap (in_part m) (stays old heads k new also t d away)
            ] in
            part_stays old new heads also m (all.parts m s (sym (free s) ∙ h)) free
            (λ t g. stays old heads k new also t d (λ e. other (one_part m k (note_at old f) (ap (λ u. in_part m (note_at old u)) (sym e) ∙ g) p.first)))
            (ap (λ (hs : Heads). head_at hs m) d.heads_are ∙ head_kept heads k m (dropped_head old heads k) other)
      ];
    }

-- whether the part has members left
pub still_led : (old : Notes) (heads : Heads) (k : ℕ) (new : Notes) (also : Heads) → IsPacked old heads → InPart old k k → IsDropped old heads k new also → 0 < (head_at also k).count → InPart new k k
still_led old heads k new also all led d more =
    let p = all.parts k k led in
    let f : ℕ = (head_at heads k).first in
    let long : k < length heads = let lt = short old k k led in let z = all.sizes in omega (arith, lt, z) in
    let head : head_at also k ≡ dropped_head old heads k = ap (λ (hs : Heads). head_at hs k) d.heads_are ∙ head_set heads k (dropped_head old heads k) long in
    let count : (head_at also k).count ≡ (head_at heads k).count - 1 = ap (λ (h : Head). h.count) head in
    elim (cases_eq k f) [
      | inr away ↦ (staying old heads k new also k p d led away).in_new
      | inl e ↦
          let top : rank_at old f ≡ 0 = ap (rank_at old) (sym e) ∙ p.end in
          let only : (s : ℕ) → InPart old k s → s ≡ k = λ s h. p.apart s k h led (let le = p.last s h in let bottom = p.end in omega (arith, le, top, bottom)) in
          let one = count_one old k led only in
          let size = p.size in
          absurd (omega (arith, one, size, count, more))
    ]

pub none_left : (new : Notes) (also : Heads) (k s : ℕ) → IsPacked new also → (head_at also k).count ≡ 0 → InPart new k s → ⊥
none_left new also k s all e h = let lt = (all.parts k s h).below s h in absurd (omega (arith, lt, e))
