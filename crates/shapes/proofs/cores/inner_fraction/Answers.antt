use Rattle.std.proofs.Common.{◌≡◌, ◌*◌, ◌^◌, ◌≤◌, pos, ◌*ℤ◌, ◌≤ℤ◌, unsigned_abs, arith, ◌∙◌, ap, sym}
use Rattle.std.proofs.lemmas.Int.{to_z-of_z, ints}
use Rattle.std.specs.Int.{w128}
use mir.Val.{SFits}
use Rattle.fixed_geom.specs.Numbers.{rdiv}
use Rattle.fixed_geom.specs.Vectors.{unit_length}
use Rattle.fixed_geom.proofs.Sizes.{narrowed}
use Rattle.shapes.specs.Cores.{part_clamped}
use Rattle.shapes.proofs.CoreLemmas.{clamped_inside, rdiv_nonnegative}
use Rattle.shapes.proofs.cores.inner_fraction.Goals as goal

quotient : (c : goal.After-rdiv) → record { value : c.rdiv.result ≡ rdiv (c.args.part *ℤ unit_length) c.args.whole; small : unsigned_abs c.rdiv.result ≤ 2 ^ 30; nonnegative : pos 0 ≤ℤ c.rdiv.result }
quotient c =
    let part : SFits w128 c.args.part = c.ranges.part in
    let whole : SFits w128 c.args.whole = c.ranges.whole in
    let product : SFits w128 c.times_unit.result = record { sfits = c.times_unit.type_inv } in
    let fits : SFits w128 c.rdiv.result = record { sfits = c.rdiv.type_inv } in
    let times : c.times_unit.result ≡ c.args.part *ℤ unit_length = simp to_z-of_z at c.times_unit.ensures.value in
    let divided = simp to_z-of_z at c.rdiv.ensures.value in
    let size : unsigned_abs c.times_unit.result ≤ 2 ^ 30 * unsigned_abs c.args.whole = rw times (omega (arith, ints, c.requires.nonnegative, c.requires.inside)) in
    let value : c.rdiv.result ≡ rdiv (c.args.part *ℤ unit_length) c.args.whole = rw times at divided in
    record {
      value = value;
      small = c.rdiv.ensures.within (2 ^ 30) (simp to_z-of_z size);
      nonnegative = rw value (rdiv_nonnegative (c.args.part *ℤ unit_length) c.args.whole (omega (arith, ints, c.requires.nonnegative)));
    }

pub overflow_cast-result : goal.overflow_cast-result
overflow_cast-result c = let q = quotient c in omega (arith, ints, q.small)

pub returns-clause-value : goal.returns-clause-value
returns-clause-value c =
    let q = quotient c in
    let inside = clamped_inside c.rdiv.result q.nonnegative q.small in
    narrowed c.rdiv.result (omega (arith, q.small)) ∙ sym inside ∙ ap part_clamped q.value

pub returns-clause-within : goal.returns-clause-within
returns-clause-within c = let q = quotient c in rw (narrowed c.rdiv.result (omega (arith, q.small))) q.small
