-- A book that begins with its sums.
use Rattle.std.proofs.Common.{◌≡◌, ◌≤◌, ◌+ℤ◌, ℤ, ℕ, List, [], unsigned_abs, arith, ap, ◌∙◌}
use Rattle.std.specs.Int.{w128, int_wrap}
use Rattle.std.proofs.lemmas.Int.{int_wrap-add_left, int_wrap_fits, fits_signed_from_abs}
use Rattle.impulse_ledger.specs.declared.limits.TheConstants.{MAX_TOTAL}
use Rattle.impulse_ledger.specs.declared.entry.Entry.{Entry}
use Rattle.impulse_ledger.specs.declared.totals.Total.{Total}
use Rattle.impulse_ledger.specs.declared.totals.Totals.{Totals}
use Rattle.impulse_ledger.specs.Totals.{total_over}
use Rattle.impulse_ledger.specs.Sums.{book_of, IsKept}
use Rattle.impulse_ledger.specs.Given.{AreTotalsWithin}
use Rattle.impulse_ledger.proofs.SumLemmas.{zero-sum_of}

-- a sum that is in its range, however far the sums on the way to it are beyond
pub wrapped_six : (a b c d e f : ℤ) → unsigned_abs (a +ℤ b +ℤ c +ℤ d +ℤ e +ℤ f) ≤ MAX_TOTAL
    → int_wrap w128 (int_wrap w128 (int_wrap w128 (int_wrap w128 (int_wrap w128 (a +ℤ b) +ℤ c) +ℤ d) +ℤ e) +ℤ f) ≡ a +ℤ b +ℤ c +ℤ d +ℤ e +ℤ f
wrapped_six a b c d e f h =
    let three : int_wrap w128 (int_wrap w128 (a +ℤ b) +ℤ c) ≡ int_wrap w128 (a +ℤ b +ℤ c) = int_wrap-add_left w128 (a +ℤ b) c in
    let four : int_wrap w128 (int_wrap w128 (int_wrap w128 (a +ℤ b) +ℤ c) +ℤ d) ≡ int_wrap w128 (a +ℤ b +ℤ c +ℤ d) = ap (λ z. int_wrap w128 (z +ℤ d)) three ∙ int_wrap-add_left w128 (a +ℤ b +ℤ c) d in
    let five : int_wrap w128 (int_wrap w128 (int_wrap w128 (int_wrap w128 (a +ℤ b) +ℤ c) +ℤ d) +ℤ e) ≡ int_wrap w128 (a +ℤ b +ℤ c +ℤ d +ℤ e) = ap (λ z. int_wrap w128 (z +ℤ e)) four ∙ int_wrap-add_left w128 (a +ℤ b +ℤ c +ℤ d) e in
    ap (λ z. int_wrap w128 (z +ℤ f)) five ∙ int_wrap-add_left w128 (a +ℤ b +ℤ c +ℤ d +ℤ e) f ∙ int_wrap_fits w128 (a +ℤ b +ℤ c +ℤ d +ℤ e +ℤ f) (fits_signed_from_abs w128 (a +ℤ b +ℤ c +ℤ d +ℤ e +ℤ f) (omega (arith, h)))

-- the sums are those of the book
pub kept_given : (t : Totals) (all : Total) (entries : List Entry) (room : ℕ) → AreTotalsWithin t → entries ≡ [] → all ≡ total_over t → IsKept (book_of entries t room) t all
kept_given t all entries room within none same = rw (none, same) (record {
  whole = record { is = zero-sum_of _; x_small = within.x; y_small = within.y };
  each = λ cause. record { is = zero-sum_of _; x_small = within.causes_x cause; y_small = within.causes_y cause };
})
