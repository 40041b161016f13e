use Rattle.std.proofs.Common.{◌≡◌, ◌+◌, ◌*◌, unsigned_abs, arith}
use Rattle.std.proofs.lemmas.Int.{to_z-of_z}
use Rattle.std.specs.Int.{w64, w128}
use mir.Val.{SFits}
use Rattle.plain_world.proofs.SlowLaws.{slow_turn}
use Rattle.plain_world.proofs.sleep.is_turn_slow.Goals as goal

pub returns : goal.returns
returns c =
    let l : SFits w128 c.args.l = c.ranges.l in
    let m : SFits w64 c.args.inertia = c.ranges.inertia in
    let turns = simp to_z-of_z at c.unsigned_abs.ensures.value in
    let size = simp to_z-of_z at c.unsigned_abs-3.ensures.value in
    let most : c.from.result * c.from-2.result ≡ (2 * 209715 + 1) * unsigned_abs c.args.inertia = rw (c.from.ensures, c.from-2.ensures, c.unsigned_abs-2.ensures.value) (omega (arith, turns)) in
    slow_turn c.args.inertia c.args.l 209715 (c.unsigned_abs-3.result * 2147483648) (c.from.result * c.from-2.result) c.requires.positive (omega arith) (omega (arith, size)) most
