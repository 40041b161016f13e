-- Sums of lists of entries.
use Rattle.std.proofs.Common.{◌≡◌, List, [], ◌∷◌, ◌++◌, arith, refl, ap, ◌∙◌}
use Rattle.std.proofs.lemmas.Int.{ints}
use Rattle.impulse_ledger.specs.declared.entry.Cause.{Cause}
use Rattle.impulse_ledger.specs.declared.entry.Cause.TheVariants.{Command, Gravity, Immovable, Clamp, Rest, Departed}
use Rattle.impulse_ledger.specs.declared.entry.Entry.{Entry}
use Rattle.impulse_ledger.specs.declared.totals.Total.{Total}
use Rattle.impulse_ledger.specs.Totals.{zero_total, sum_of, impulse_of, over_causes, total_in, total_over}
use Rattle.impulse_ledger.specs.Sums.{Book, summed, summed_of, share, total, total_of}

-- ---- totals

-- totals with the same components are the same
pub same_total : (a b : Total) → a.x ≡ b.x → a.y ≡ b.y → a ≡ b
same_total a b x y = λ i. record { x = x i; y = y i }

pub same_x : {a b : Total} → a ≡ b → a.x ≡ b.x
same_x e = ap (λ (t : Total). t.x) e

pub same_y : {a b : Total} → a ≡ b → a.y ≡ b.y
same_y e = ap (λ (t : Total). t.y) e

pub sum_of-zero : (a : Total) → sum_of a zero_total ≡ a
sum_of-zero a = same_total _ a (omega (arith, ints)) (omega (arith, ints))

pub zero-sum_of : (a : Total) → a ≡ sum_of zero_total a
zero-sum_of a = same_total a _ (omega (arith, ints)) (omega (arith, ints))

pub sum_of-assoc : (a b c : Total) → sum_of a (sum_of b c) ≡ sum_of (sum_of a b) c
sum_of-assoc a b c = same_total _ _ (omega (arith, ints)) (omega (arith, ints))

pub sum_of-swap : (a b c : Total) → sum_of (sum_of a b) c ≡ sum_of (sum_of a c) b
sum_of-swap a b c = same_total _ _ (omega (arith, ints)) (omega (arith, ints))

-- ---- two lists, one after the other

pub summed-append : (es fs : List Entry) → summed (es ++ fs) ≡ sum_of (summed es) (summed fs)
summed-append [] fs = zero-sum_of (summed fs)
summed-append (e ∷ es) fs = ap (sum_of (impulse_of e)) (summed-append es fs) ∙ sum_of-assoc (impulse_of e) (summed es) (summed fs)

pub summed_of-append : (cause : Cause) (es fs : List Entry) → summed_of cause (es ++ fs) ≡ sum_of (summed_of cause es) (summed_of cause fs)
summed_of-append cause [] fs = zero-sum_of (summed_of cause fs)
summed_of-append cause (e ∷ es) fs =
    ap (sum_of (share cause e.cause (impulse_of e))) (summed_of-append cause es fs) ∙ sum_of-assoc (share cause e.cause (impulse_of e)) (summed_of cause es) (summed_of cause fs)

-- ---- one more entry

pub summed-push : (es : List Entry) (e : Entry) → summed (es ++ e ∷ []) ≡ sum_of (summed es) (impulse_of e)
summed-push es e = summed-append es (e ∷ []) ∙ ap (sum_of (summed es)) (sum_of-zero (impulse_of e))

pub summed_of-push : (cause : Cause) (es : List Entry) (e : Entry) → summed_of cause (es ++ e ∷ []) ≡ sum_of (summed_of cause es) (share cause e.cause (impulse_of e))
summed_of-push cause es e = summed_of-append cause es (e ∷ []) ∙ ap (sum_of (summed_of cause es)) (sum_of-zero (share cause e.cause (impulse_of e)))

-- ---- the sums by cause are the sum of all

-- an impulse is the share of one cause
pub over_causes-share : (own : Cause) (t : Total) → over_causes (λ cause. share cause own t) ≡ t
over_causes-share Command t = same_total _ t (omega (arith, ints)) (omega (arith, ints))
over_causes-share Gravity t = same_total _ t (omega (arith, ints)) (omega (arith, ints))
over_causes-share Immovable t = same_total _ t (omega (arith, ints)) (omega (arith, ints))
over_causes-share Clamp t = same_total _ t (omega (arith, ints)) (omega (arith, ints))
over_causes-share Rest t = same_total _ t (omega (arith, ints)) (omega (arith, ints))
over_causes-share Departed t = same_total _ t (omega (arith, ints)) (omega (arith, ints))

-- sums of two parts for each cause are two sums
over_causes-sum_of : (f g : Cause → Total) → over_causes (λ cause. sum_of (f cause) (g cause)) ≡ sum_of (over_causes f) (over_causes g)
over_causes-sum_of f g = same_total _ _ (omega (arith, ints)) (omega (arith, ints))

pub over_causes-summed_of : (es : List Entry) → over_causes (λ cause. summed_of cause es) ≡ summed es
over_causes-summed_of [] = refl
over_causes-summed_of (e ∷ es) =
    over_causes-sum_of (λ cause. share cause e.cause (impulse_of e)) (λ cause. summed_of cause es)
    ∙ (ap (λ (t : Total). sum_of t (over_causes (λ cause. summed_of cause es))) (over_causes-share e.cause (impulse_of e)) ∙ ap (sum_of (impulse_of e)) (over_causes-summed_of es))

pub over_causes-total_of : (b : Book) → over_causes (λ cause. total_of cause b) ≡ total b
over_causes-total_of b = over_causes-sum_of (λ cause. summed_of cause b.entries) (λ cause. total_in cause b.settled) ∙ ap (λ (t : Total). sum_of t (total_over b.settled)) (over_causes-summed_of b.entries)
