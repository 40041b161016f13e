use Rattle.std.proofs.Common.{◌+◌, ◌^◌, ◌≤◌, unsigned_abs, arith}
use Rattle.std.proofs.lemmas.Int.{to_z-of_z}
use Rattle.std.specs.Int.{w64}
use mir.Val.{SFits}
use Rattle.shapes.proofs.bounds.tight_box.Goals as goal

pub grow-requires-clause-corners : goal.grow-requires-clause-corners
grow-requires-clause-corners c =
    let ends = c.box_of_ends.ensures.within (2 ^ 36 + 2 ^ 25) c.core_of.ensures.first c.core_of.ensures.second in
    record {
      lo = record { x = omega (arith, ends.lo.x); y = omega (arith, ends.lo.y) };
      hi = record { x = omega (arith, ends.hi.x); y = omega (arith, ends.hi.y) };
    }

pub returns-clause-within : goal.returns-clause-within
returns-clause-within c =
    let fits : SFits w64 c.radius.result = record { sfits = c.radius.type_inv } in
    let small : unsigned_abs c.radius.result ≤ 2 ^ 24 = rw c.radius.ensures c.requires.shape.radius in
    let ends = c.box_of_ends.ensures.within (2 ^ 36 + 2 ^ 25) c.core_of.ensures.first c.core_of.ensures.second in
    let grown = simp to_z-of_z at (c.grow.ensures.within (2 ^ 36 + 2 ^ 25) ends) in
    record {
      lo = record { x = omega (arith, grown.lo.x, small); y = omega (arith, grown.lo.y, small) };
      hi = record { x = omega (arith, grown.hi.x, small); y = omega (arith, grown.hi.y, small) };
    }
