use Rattle.std.proofs.Common.{ℕ, ◌^◌, w32, sym, ap, ◌∙◌, arith}
use Rattle.std.specs.Prelude.{bit_or}
use Rattle.std.specs.Int.{bit_at, bit_not, trailing_zeros}
use Rattle.graph_colours.specs.declared.limits.TheConstants.{COLOURS}
use Rattle.graph_colours.proofs.BitLaws.{first_clear}
use Rattle.graph_colours.proofs.taken_colours.first_free.Goals as goal

pub returns-clause-most : goal.returns-clause-most
returns-clause-most c = (first_clear c.taken.result (omega arith)).most

pub returns-clause-before : goal.returns-clause-before
returns-clause-before c = λ k lt. ap (λ w. bit_at w k) (sym c.taken.ensures) ∙ (first_clear c.taken.result (omega arith)).before k lt

pub returns-clause-free : goal.returns-clause-free
returns-clause-free c = λ lt.
    let i : ℕ = trailing_zeros w32 (bit_or (bit_not w32 c.taken.result) (2 ^ COLOURS)) in
    ap (λ w. bit_at w i) (sym c.taken.ensures) ∙ (first_clear c.taken.result (omega arith)).free lt
