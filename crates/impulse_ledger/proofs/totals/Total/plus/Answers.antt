use Rattle.std.proofs.Common.{◌≡◌, ◌<◌, ◌^◌, ◌+ℤ◌, ℤ, unsigned_abs, arith, rules, to_z, of_z}
use mir.Val.{SFits}
use Rattle.std.specs.Int.{w128}
use Rattle.std.proofs.lemmas.Int.{ints}
use Rattle.impulse_ledger.proofs.totals.Total.plus.Goals as goal

-- the code's sum of two numbers whose sum is in range
exact : (a b : ℤ) → SFits w128 a → SFits w128 b → unsigned_abs (a +ℤ b) < 2 ^ 127 → to_z w128 (of_z w128 (to_z w128 (of_z w128 a) +ℤ to_z w128 (of_z w128 b))) ≡ a +ℤ b
exact a b f g h = omega (arith, ints)

pub returns : goal.returns
returns c =
    let x : SFits w128 c.args.self.x = search rules in
    let y : SFits w128 c.args.self.y = search rules in
    let other_x : SFits w128 c.args.other.x = search rules in
    let other_y : SFits w128 c.args.other.y = search rules in
    rw (exact _ _ x other_x c.requires.x, exact _ _ y other_y c.requires.y)
