use Rattle.std.proofs.Common.{arith, inl, inr}
use Rattle.std.proofs.lemmas.Int.{ints}
use Rattle.fixed_geom.proofs.Sizes.{IsExactSum, exact_sum}
use Rattle.momenta.specs.Impulses.{inverse_mass}
use Rattle.momenta.proofs.inverse.inverse_mass.Goals as goal

exact : (c : goal.After-inverse_share-2) → IsExactSum c.inverse_share.result c.inverse_share-2.result
exact c = exact_sum _ _ (omega (arith, c.inverse_share.ensures.within)) (omega (arith, c.inverse_share-2.ensures.within))

pub returns-clause-value : goal.returns-clause-value
unfolding inverse_mass
returns-clause-value c = rw (← c.inverse_share.ensures.value, ← c.inverse_share-2.ensures.value) (exact c).value

pub returns-clause-low : goal.returns-clause-low
returns-clause-low c =
    elim c.requires.mover [
      | inl h ↦ rw (exact c).value (omega (arith, ints, c.inverse_share.ensures.some h, c.inverse_share-2.ensures.nonnegative))
      | inr h ↦ rw (exact c).value (omega (arith, ints, c.inverse_share-2.ensures.some h, c.inverse_share.ensures.nonnegative))
    ]

pub returns-clause-high : goal.returns-clause-high
returns-clause-high c = rw (exact c).value (omega (arith, (exact c).size, c.inverse_share.ensures.within, c.inverse_share-2.ensures.within))
