use Rattle.std.proofs.Common.{◌≡◌, ◌≤◌, ◌^◌, pos, ◌-ℤ◌, neg_ℤ, ℤ, unsigned_abs, arith, rules, refl}
use Rattle.std.proofs.lemmas.Int.{to_z-of_z, ints, fits_signed_from_abs}
use Rattle.std.specs.Int.{w64}
use mir.Val.{SFits}
use Rattle.momenta.specs.declared.state.Ends.{Ends}
use Rattle.momenta.specs.declared.line.Exerted.{Exerted}
use Rattle.momenta.specs.Impulses.{solved_impulse}
use Rattle.colour_solver_base.specs.declared.row.PointRow.{PointRow}
use Rattle.colour_solver_base.specs.Rows.{tangent_line, with_tangent}
use Rattle.colour_solver_base.specs.ContactSolving.{most_friction}
use Rattle.colour_solver_base.proofs.friction.apply_friction.Goals as goal

abbrev tangent_by : ℤ → PointRow → Ends → Exerted
tangent_by friction p e = solved_impulse (tangent_line p) (pos 0) (neg_ℤ (most_friction friction p.normal_impulse)) (most_friction friction p.normal_impulse) p.tangent_impulse e

tangent_after : (p : PointRow) (t u : Exerted) → t ≡ u → record { point = record p { tangent_impulse = t.total }; ends = t.ends } ≡ with_tangent p u
tangent_after p t u h = rw h refl

opposite_fits : (x : ℤ) → unsigned_abs x ≤ 2 ^ 43 → SFits w64 (pos 0 -ℤ x)
opposite_fits x h = fits_signed_from_abs w64 (pos 0 -ℤ x) (omega (arith, ints, h))

negative : (x : ℤ) → pos 0 -ℤ x ≡ neg_ℤ x
negative x = omega (arith, ints)

pub solve_line-total-requires-clause-order : goal.solve_line-total-requires-clause-order
solve_line-total-requires-clause-order c =
    let most : SFits w64 c.most_friction-most.result = record { sfits = c.most_friction-most.type_inv } in
    let least : SFits w64 (pos 0 -ℤ c.most_friction-most.result) = fits_signed_from_abs w64 (pos 0 -ℤ c.most_friction-most.result) (omega (arith, ints, c.most_friction-most.ensures.within)) in
    simp to_z-of_z (omega (arith, ints, c.most_friction-most.ensures.nonnegative))

pub solve_line-total-requires-clause-low : goal.solve_line-total-requires-clause-low
solve_line-total-requires-clause-low c =
    let most : SFits w64 c.most_friction-most.result = record { sfits = c.most_friction-most.type_inv } in
    let least : SFits w64 (pos 0 -ℤ c.most_friction-most.result) = fits_signed_from_abs w64 (pos 0 -ℤ c.most_friction-most.result) (omega (arith, ints, c.most_friction-most.ensures.within)) in
    simp to_z-of_z (omega (arith, ints, c.most_friction-most.ensures.within))

pub returns-clause-value : goal.returns-clause-value
returns-clause-value c =
    let friction : SFits w64 c.args.friction = c.ranges.friction in
    let normal_impulse : SFits w64 c.args.point.now.normal_impulse = search rules in
    let tangent_impulse : SFits w64 c.args.point.now.tangent_impulse = search rules in
    let total : SFits w64 c.solve_line-total.result = record { sfits = c.solve_line-total.type_inv } in
    let most : SFits w64 c.most_friction-most.result = record { sfits = c.most_friction-most.type_inv } in
    let least : SFits w64 (pos 0 -ℤ c.most_friction-most.result) = opposite_fits c.most_friction-most.result c.most_friction-most.ensures.within in
    let limit = simp to_z-of_z at c.most_friction-most.ensures.value in
    let value = rw (c.tangent_line.ensures, negative c.most_friction-most.result, limit) at (simp to_z-of_z at c.solve_line-total.ensures.value) in
    simp to_z-of_z (tangent_after c.args.point.now (record { ends = c.solve_line-total.new.ends; total = c.solve_line-total.result }) (tangent_by c.args.friction c.args.point.now c.args.ends.now) value)
