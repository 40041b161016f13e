use Rattle.std.proofs.Common.{◌≡◌, ◌∙◌, ap, ◌^◌, ◌≤◌, ℤ, pos, ◌+ℤ◌, ◌<ℤ◌, ◌≤ℤ◌, unsigned_abs, arith, rules}
use Rattle.std.proofs.lemmas.Int.{to_z-of_z, ints}
use Rattle.std.specs.Int.{w64}
use mir.Val.{SFits}
use Rattle.fixed_geom.specs.Numbers.{rdiv}
use Rattle.fixed_geom.specs.Vectors.{cross, unit_length}
use Rattle.fixed_geom.proofs.ReciprocalLemmas.{reciprocal_nonnegative}
use Rattle.fixed_geom.proofs.Sizes.{IsExactSum, exact_sum}
use Rattle.momenta.specs.Impulses.{turning_share}
use Rattle.momenta.specs.Motions.{IsMass}
use Rattle.momenta.proofs.Laws64.{inertia_reciprocal, mass_reciprocal}
use Rattle.momenta.proofs.inverse.share_of_mover.Goals as goal

-- the two shares, with no conversions
record Shares (c : goal.After-turning_share) : Type 0 where
  first : c.from.result ≡ rdiv (pos (2 ^ 40)) c.args.mass.mass
  second : c.turning_share.result ≡ turning_share c.args.mass.inertia (rdiv (cross c.args.r c.args.direction) unit_length)
  some : pos (2 ^ 20) ≤ℤ c.from.result
  small : unsigned_abs c.from.result ≤ 2 ^ 40
  nonnegative : pos 0 ≤ℤ c.turning_share.result
  within : unsigned_abs c.turning_share.result ≤ 2 ^ 96

shares : (c : goal.After-turning_share) → Shares c
shares c =
    let mass : SFits w64 c.args.mass.mass = search rules in
    let inertia : SFits w64 c.args.mass.inertia = search rules in
    let share : SFits w64 c.share_of_mass.result = record { sfits = c.share_of_mass.type_inv } in
    let arm : SFits w64 c.lever.result = record { sfits = c.lever.type_inv } in
    let from : c.from.result ≡ c.share_of_mass.result = simp to_z-of_z at c.from.ensures in
    let value : c.share_of_mass.result ≡ rdiv (pos (2 ^ 40)) c.args.mass.mass = simp to_z-of_z at c.share_of_mass.ensures.value in
    let lever : c.lever.result ≡ rdiv (cross c.args.r c.args.direction) unit_length = c.lever.ensures.value in
    let turn : c.turning_share.result ≡ turning_share c.args.mass.inertia c.lever.result = simp to_z-of_z at c.turning_share.ensures.value in
    record {
      first = from ∙ value;
      second = turn ∙ ap (turning_share c.args.mass.inertia) lever;
      some = rw from c.share_of_mass.ensures.some;
      small = rw from c.share_of_mass.ensures.within;
      nonnegative = c.turning_share.ensures.nonnegative;
      within = c.turning_share.ensures.within;
    }

exact : (c : goal.After-turning_share) → IsExactSum c.from.result c.turning_share.result
exact c = exact_sum _ _ (omega (arith, (shares c).small)) (omega (arith, (shares c).within))

pub overflow_add-result : goal.overflow_add-result
overflow_add-result c = (exact c).fits

pub returns-clause-value : goal.returns-clause-value
returns-clause-value c =
    let s = shares c in
    (exact c).value ∙ ap (λ (v : ℤ). v +ℤ c.turning_share.result) s.first ∙ ap (λ (v : ℤ). rdiv (pos (2 ^ 40)) c.args.mass.mass +ℤ v) s.second

pub returns-clause-some : goal.returns-clause-some
returns-clause-some c = rw (exact c).value (omega (arith, ints, (shares c).some, (shares c).nonnegative))

pub returns-clause-within : goal.returns-clause-within
returns-clause-within c = rw (exact c).value (omega (arith, (exact c).size, (shares c).small, (shares c).within))

pub share_of_mass-requires-clause-reciprocal : goal.share_of_mass-requires-clause-reciprocal
share_of_mass-requires-clause-reciprocal c =
    let reciprocal : SFits w64 c.args.reciprocals.mass = search rules in
    let mover : IsMass c.args.mass = c.requires.mass in
    let some : pos 0 <ℤ c.args.mass.mass = omega (arith, ints, mover.positive) in
    simp to_z-of_z (rw (mass_reciprocal c.args.mass c.args.reciprocals c.requires.reciprocals) (reciprocal_nonnegative c.args.mass.mass some))

pub turning_share-requires-clause-reciprocal : goal.turning_share-requires-clause-reciprocal
turning_share-requires-clause-reciprocal c =
    let inertia : SFits w64 c.args.mass.inertia = search rules in
    let reciprocal : SFits w64 c.args.reciprocals.inertia = search rules in
    simp to_z-of_z (inertia_reciprocal c.args.mass c.args.reciprocals c.requires.reciprocals)
