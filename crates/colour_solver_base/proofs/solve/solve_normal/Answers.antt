use Rattle.std.proofs.Common.{◌^◌, pos, ◌≤ℤ◌, arith, rules}
use Rattle.std.proofs.lemmas.Int.{to_z-of_z, ints}
use Rattle.std.specs.Int.{w64}
use mir.Val.{SFits}
use Rattle.colour_solver_base.proofs.solve.solve_normal.Goals as goal

pub returns-clause-point : goal.returns-clause-point
returns-clause-point c =
    let normal_impulse : SFits w64 c.args.point.now.normal_impulse = search rules in
    let total : SFits w64 c.solve_line-total.result = record { sfits = c.solve_line-total.type_inv } in
    let now = c.requires.point in
    let low : pos 0 ≤ℤ c.solve_line-total.result = (simp to_z-of_z at c.solve_line-total.ensures.low) now.normal_low in
    let most : c.args.point.now.normal_impulse ≤ℤ pos (2 ^ 42) = omega (arith, ints, now.normal_high) in
    let high : c.solve_line-total.result ≤ℤ pos (2 ^ 42) = (simp to_z-of_z at c.solve_line-total.ensures.high) most in
    simp to_z-of_z (record {
      normal_line = now.normal_line;
      tangent_line = now.tangent_line;
      separation = now.separation;
      start_speed = now.start_speed;
      normal_low = low;
      normal_high = omega (arith, ints, low, high);
      tangent_impulse = now.tangent_impulse;
    })
