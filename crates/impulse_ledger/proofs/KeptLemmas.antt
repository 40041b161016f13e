-- The kept sums with one more entry.
use Rattle.std.proofs.Common.{◌≡◌, ℕ, List, [], ◌∷◌, ◌++◌, Bool, true, false, refl, sym, ap, ◌∙◌}
use Rattle.impulse_ledger.specs.declared.limits.TheConstants.{MAX_TOTAL_OF_CAUSE}
use Rattle.impulse_ledger.specs.declared.entry.Cause.{Cause}
use Rattle.impulse_ledger.specs.declared.entry.Cause.TheVariants.{Command, Gravity, Immovable, Clamp, Rest, Departed}
use Rattle.impulse_ledger.specs.declared.entry.Entry.{Entry}
use Rattle.impulse_ledger.specs.declared.totals.Total.{Total}
use Rattle.impulse_ledger.specs.declared.totals.Totals.{Totals}
use Rattle.impulse_ledger.specs.Totals.{sum_of, impulse_of, total_in, total_over, put_total}
use Rattle.impulse_ledger.specs.Sums.{Book, book_of, is_cause, share, summed, summed_of, total_of, totals_of, Fits, HaveSameTotals, IsTotal, IsKept}
use Rattle.impulse_ledger.proofs.SumLemmas.{sum_of-zero, sum_of-swap, zero-sum_of, summed-push, summed_of-push, over_causes-total_of}
use Rattle.impulse_ledger.proofs.CauseLemmas.{is_cause_is, is_cause-same, total_in-put_same, total_in-put_other}

-- the sums by cause once an entry was added to its own
abbrev pub posted : Totals → Entry → Totals
posted t e = put_total t e.cause (sum_of (total_in e.cause t) (impulse_of e))

-- a cause has what it had, and its share of the entry
abbrev pub IsOfCause : Cause → Book → Entry → Total → Type 0
IsOfCause c b e t = IsTotal (sum_of (total_of c b) (share c e.cause (impulse_of e))) MAX_TOTAL_OF_CAUSE t

of_own_cause : (b : Book) (e : Entry) (t : Totals) → IsTotal (total_of e.cause b) MAX_TOTAL_OF_CAUSE (total_in e.cause t) → Fits b e → IsOfCause e.cause b e (total_in e.cause (posted t e))
of_own_cause b e t was fits = rw (total_in-put_same e.cause t _, is_cause-same e.cause) (record {
  is = ap (λ (u : Total). sum_of u (impulse_of e)) was.is;
  x_small = rw was.is fits.of_cause_x;
  y_small = rw was.is fits.of_cause_y;
})

of_other_cause : (c : Cause) (b : Book) (e : Entry) (t : Totals) → is_cause c e.cause ≡ false → IsTotal (total_of c b) MAX_TOTAL_OF_CAUSE (total_in c t) → IsOfCause c b e (total_in c (posted t e))
of_other_cause c b e t other was = rw (total_in-put_other c e.cause t _ other, other) (record {
  is = was.is ∙ sym (sum_of-zero (total_of c b));
  x_small = was.x_small;
  y_small = was.y_small;
})

of_cause : (own : Bool) (c : Cause) (b : Book) (e : Entry) (t : Totals) (all : Total) → is_cause c e.cause ≡ own → IsKept b t all → Fits b e → IsOfCause c b e (total_in c (posted t e))
of_cause true c b e t all own kept fits = rw (is_cause_is c e.cause own) (of_own_cause b e t (kept.each e.cause) fits)
of_cause false c b e t all other kept fits = of_other_cause c b e t other (kept.each c)

-- the kept sums stay those of the book when an entry is added
pub IsKept-push : (b new : Book) (e : Entry) (t : Totals) (all : Total) → new.entries ≡ b.entries ++ e ∷ [] → new.settled ≡ b.settled → IsKept b t all → Fits b e → IsKept new (posted t e) (sum_of all (impulse_of e))
IsKept-push b new e t all entries settled kept fits = record {
  whole = record {
    is = rw (entries, settled) (ap (λ (u : Total). sum_of u (impulse_of e)) kept.whole.is ∙ one_more (summed b.entries) (total_over b.settled) (impulse_of e) _ (summed-push b.entries e));
    x_small = rw kept.whole.is fits.x;
    y_small = rw kept.whole.is fits.y;
  };
  each = λ c. let of = of_cause (is_cause c e.cause) c b e t all refl kept fits in record {
    is = rw (entries, settled) (of.is ∙ one_more (summed_of c b.entries) (total_in c b.settled) (share c e.cause (impulse_of e)) _ (summed_of-push c b.entries e));
    x_small = of.x_small;
    y_small = of.y_small;
  };
}
  where
    one_more : (s d h more : Total) → more ≡ sum_of s h → sum_of (sum_of s d) h ≡ sum_of more d
    one_more s d h more is = sum_of-swap s d h ∙ ap (λ (u : Total). sum_of u d) (sym is)

-- ---- settling

-- what was kept are the sums of the book
pub totals_is : (b : Book) (t : Totals) (all : Total) → IsKept b t all → t ≡ totals_of b
totals_is b t all kept = λ i. record {
  command = of Command i;
  gravity = of Gravity i;
  immovable = of Immovable i;
  clamp = of Clamp i;
  rest = of Rest i;
  departed = of Departed i;
}
  where
    of : (c : Cause) → total_in c t ≡ total_of c b
    of c = (kept.each c).is

total_in-totals_of : (c : Cause) (b : Book) → total_in c (totals_of b) ≡ total_of c b
total_in-totals_of Command b = refl
total_in-totals_of Gravity b = refl
total_in-totals_of Immovable b = refl
total_in-totals_of Clamp b = refl
total_in-totals_of Rest b = refl
total_in-totals_of Departed b = refl

-- a book whose entries were added to what was settled has the same sums
pub same_totals : (b : Book) (room : ℕ) → HaveSameTotals (book_of [] (totals_of b) room) b
same_totals b room = record {
  all = sym (zero-sum_of _) ∙ over_causes-total_of b;
  of_cause = λ c. sym (zero-sum_of _) ∙ total_in-totals_of c b;
}

pub settled_same : (b : Book) (items : List Entry) (t : Totals) (all : Total) (room : ℕ) → items ≡ [] → IsKept b t all → HaveSameTotals (book_of items t room) b
settled_same b items t all room none kept = rw (none, totals_is b t all kept) (same_totals b room)

-- so the kept sums are those of both
pub IsKept-settled : (b new : Book) (t : Totals) (all : Total) → HaveSameTotals new b → IsKept b t all → IsKept new t all
IsKept-settled b new t all same kept = record {
  whole = record { is = kept.whole.is ∙ sym same.all; x_small = kept.whole.x_small; y_small = kept.whole.y_small };
  each = λ c. record { is = (kept.each c).is ∙ sym (same.of_cause c); x_small = (kept.each c).x_small; y_small = (kept.each c).y_small };
}
