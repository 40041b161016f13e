use Rattle.std.proofs.Common.{◌≡◌, ◌≤◌, ◌^◌, ◌+ℤ◌, ℤ, unsigned_abs, arith, rules, to_z, of_z}
use mir.Val.{SFits}
use Rattle.std.specs.Int.{w64, w128}
use Rattle.std.proofs.lemmas.Int.{ints}
use Rattle.world_lock.proofs.tally.Tally.with.Goals as goal

-- the code's sum of two numbers that are far from the ends of their range
exact : (a j : ℤ) → SFits w128 a → SFits w64 j → unsigned_abs a ≤ 2 ^ 80 → unsigned_abs j ≤ 2 ^ 40
    → to_z w128 (of_z w128 (to_z w128 (of_z w128 a) +ℤ to_z w128 (of_z w128 (to_z w64 (of_z w64 j))))) ≡ a +ℤ j
exact a j f g h k = omega (arith, ints)

pub returns : goal.returns
returns c =
    let x : SFits w128 c.args.self.pushed.x = search rules in
    let y : SFits w128 c.args.self.pushed.y = search rules in
    let jx : SFits w64 c.args.impulse.x = search rules in
    let jy : SFits w64 c.args.impulse.y = search rules in
    rw (c.from.ensures, c.from-2.ensures, exact _ _ x jx c.requires.tally.x c.requires.impulse.x, exact _ _ y jy c.requires.tally.y c.requires.impulse.y)
