use Rattle.std.proofs.Common.{◌≡◌, ◌∙◌, ap, ◌^◌, ◌≤◌, pos, ◌≤ℤ◌, unsigned_abs, arith, rules}
use Rattle.std.proofs.lemmas.Int.{to_z-of_z, ints}
use Rattle.std.specs.Int.{w64}
use mir.Val.{SFits}
use Rattle.momenta.specs.declared.line_64.Exerted64.{Exerted64}
use Rattle.momenta.specs.Impulses.{solved_impulse}
use Rattle.momenta.specs.Line64.{ends_with}
use Rattle.momenta.proofs.Laws64.{some_both, some_then}
use Rattle.colour_solver_base.specs.Rows.{normal_line, normal_solved, separation_now, with_normal}
use Rattle.colour_solver_base.specs.ContactSolving.{overlap_bias}
use Rattle.colour_solver_base.specs.Row64.{with_impulses}
use Rattle.colour_solver_base.proofs.Laws64.{same_separation}
use Rattle.colour_solver_base.proofs.row_64.solve_normal_64.Goals as goal

bias_is : (c : goal.After-solve_line_64) → c.bias_of-bias.result ≡ overlap_bias (separation_now c.args.point.now (ends_with c.args.a.now c.args.b.now c.args.now))
bias_is c =
    let separation : SFits w64 c.separation_between.result = record { sfits = c.separation_between.type_inv } in
    (simp to_z-of_z at c.bias_of-bias.ensures.value) ∙ ap overlap_bias (c.separation_between.ensures.value ∙ same_separation c.args.point.now c.args.a.now c.args.b.now c.args.now)

pub returns-clause-value : goal.returns-clause-value
returns-clause-value c =
    let bias : SFits w64 c.bias_of-bias.result = record { sfits = c.bias_of-bias.type_inv } in
    let normal_impulse : SFits w64 c.args.point.now.normal_impulse = search rules in
    let e = ends_with c.args.a.now c.args.b.now c.args.now in
    let p = c.args.point.now in
    let value = rw (c.normal_line.ensures, bias_is c) at (simp to_z-of_z at c.solve_line_64.ensures.value) in
    some_then (λ (r : Exerted64). solved_impulse (normal_line p) (overlap_bias (separation_now p e)) (pos 0) (pos (2 ^ 42)) p.normal_impulse e ≡ record { ends = ends_with c.args.a.now c.args.b.now r.now; total = r.total })
    (λ (r : Exerted64). normal_solved (overlap_bias (separation_now p e)) p e ≡ record { point = with_impulses p r.total p.tangent_impulse; ends = ends_with c.args.a.now c.args.b.now r.now })
    c.solve_line_64.result (λ r h. ap (with_normal p) h) value

pub returns-clause-high : goal.returns-clause-high
returns-clause-high c =
    let both = some_both (λ (r : Exerted64). pos 0 ≤ℤ r.total) (λ (r : Exerted64). r.total ≤ℤ pos (2 ^ 42)) c.solve_line_64.result c.solve_line_64.ensures.low c.solve_line_64.ensures.high in
    some_then (λ (r : Exerted64). (pos 0 ≤ℤ r.total) × (r.total ≤ℤ pos (2 ^ 42))) (λ (r : Exerted64). unsigned_abs r.total ≤ 2 ^ 42) c.solve_line_64.result (λ r h. omega (arith, ints, h)) both

pub returns-clause-still : goal.returns-clause-still
returns-clause-still c =
    let normal_impulse : SFits w64 c.args.point.now.normal_impulse = search rules in
    simp to_z-of_z at c.solve_line_64.ensures.still

pub returns-clause-room : goal.returns-clause-room
returns-clause-room c =
    let bias : SFits w64 c.bias_of-bias.result = record { sfits = c.bias_of-bias.type_inv } in
    let normal_impulse : SFits w64 c.args.point.now.normal_impulse = search rules in
    rw (c.normal_line.ensures, bias_is c) at (simp to_z-of_z at c.solve_line_64.ensures.room)
