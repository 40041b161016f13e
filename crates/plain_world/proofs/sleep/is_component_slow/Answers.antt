use Rattle.std.proofs.Common.{◌≡◌, ◌+◌, ◌*◌, unsigned_abs, arith}
use Rattle.std.proofs.lemmas.Int.{to_z-of_z}
use Rattle.std.specs.Int.{w64}
use mir.Val.{SFits}
use Rattle.plain_world.proofs.SlowLaws.{slow_test}
use Rattle.plain_world.proofs.sleep.is_component_slow.Goals as goal

pub returns : goal.returns
returns c =
    let p : SFits w64 c.args.p = c.ranges.p in
    let m : SFits w64 c.args.mass = c.ranges.mass in
    let size = simp to_z-of_z at c.unsigned_abs.ensures.value in
    let mass = simp to_z-of_z at c.unsigned_abs-2.ensures.value in
    let most : c.unsigned_abs-2.result * (2 * c.unsigned_abs-3.result + 1) ≡ (2 * 205 + 1) * unsigned_abs c.args.mass = rw c.unsigned_abs-3.ensures.value (omega (arith, mass)) in
    slow_test c.args.p c.args.mass 205 (2 * c.unsigned_abs.result) (c.unsigned_abs-2.result * (2 * c.unsigned_abs-3.result + 1)) c.requires.positive (omega (arith, size)) most
