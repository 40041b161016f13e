use Rattle.std.proofs.Common.{◌≡◌, ◌∙◌, ap, sym, ◌^◌, ◌≤◌, pos, neg_ℤ, ◌-ℤ◌, ◌≤ℤ◌, ℤ, unsigned_abs, arith, rules}
use Rattle.std.proofs.lemmas.Int.{to_z-of_z, ints, fits_signed_from_abs}
use Rattle.std.specs.Int.{w64}
use mir.Val.{SFits}
use Rattle.momenta.specs.declared.line_64.Exerted64.{Exerted64}
use Rattle.momenta.specs.declared.state.Ends.{Ends}
use Rattle.momenta.specs.Impulses.{solved_impulse}
use Rattle.colour_solver_base.specs.declared.row.PointRow.{PointRow}
use Rattle.colour_solver_base.specs.declared.solve.PointAfter.{PointAfter}
use Rattle.momenta.specs.Line64.{ends_with}
use Rattle.momenta.proofs.Laws64.{some_both, some_then}
use Rattle.colour_solver_base.specs.Rows.{tangent_line, tangent_solved, with_tangent}
use Rattle.colour_solver_base.specs.ContactSolving.{most_friction}
use Rattle.colour_solver_base.specs.Row64.{with_impulses}
use Rattle.colour_solver_base.proofs.Frictionless.{frictionless}
use Rattle.colour_solver_base.proofs.row_64.solve_tangent_64.Goals as goal

negative : (x : ℤ) → pos 0 -ℤ x ≡ neg_ℤ x
negative x = omega (arith, ints)

abbrev turned : PointRow → ℤ → ℤ → Ends → PointAfter
turned p normal_impulse tangent_impulse e = record { point = with_impulses p normal_impulse tangent_impulse; ends = e }

without : (p : PointRow) (normal_impulse tangent_impulse : ℤ) (e : Ends) → tangent_impulse ≡ pos 0 → turned p normal_impulse tangent_impulse e ≡ turned p normal_impulse (pos 0) e
without p normal_impulse tangent_impulse e h = ap (λ s. turned p normal_impulse s e) h

within_by : (most x : ℤ) → unsigned_abs most ≤ 2 ^ 43 → neg_ℤ most ≤ℤ x → x ≤ℤ most → unsigned_abs x ≤ 2 ^ 43
within_by most x h low high = omega (arith, ints)

pub returns-then-has_no_friction-clause-value : goal.returns-then-has_no_friction-clause-value
returns-then-has_no_friction-clause-value c =
    let friction : SFits w64 c.args.friction = c.ranges.friction in
    let normal_impulse : SFits w64 c.args.after_normal.total = search rules in
    let most : SFits w64 c.most_friction-most.result = record { sfits = c.most_friction-most.type_inv } in
    let tangent_impulse : SFits w64 c.args.point.now.tangent_impulse = search rules in
    let limit = simp to_z-of_z at c.most_friction-most.ensures.value in
    let none : c.most_friction-most.result ≡ pos 0 = simp to_z-of_z at (c.has_no_friction.ensures.most c.if-has_no_friction.true) in
    let still : c.args.point.now.tangent_impulse ≡ pos 0 = simp to_z-of_z at (c.has_no_friction.ensures.tangent_impulse c.if-has_no_friction.true) in
    let e = ends_with c.args.a.now c.args.b.now c.args.after_normal.now in
    frictionless c.args.friction (with_impulses c.args.point.now c.args.after_normal.total c.args.point.now.tangent_impulse) e c.requires.states (sym limit ∙ none) still ∙ without c.args.point.now c.args.after_normal.total c.args.point.now.tangent_impulse e still

pub solve_line_64-requires-clause-order : goal.solve_line_64-requires-clause-order
solve_line_64-requires-clause-order c =
    let most : SFits w64 c.most_friction-most.result = record { sfits = c.most_friction-most.type_inv } in
    let least : SFits w64 (pos 0 -ℤ c.most_friction-most.result) = fits_signed_from_abs w64 (pos 0 -ℤ c.most_friction-most.result) (omega (arith, ints, c.most_friction-most.ensures.within)) in
    simp to_z-of_z (omega (arith, ints, c.most_friction-most.ensures.nonnegative))

pub solve_line_64-requires-clause-low : goal.solve_line_64-requires-clause-low
solve_line_64-requires-clause-low c =
    let most : SFits w64 c.most_friction-most.result = record { sfits = c.most_friction-most.type_inv } in
    let least : SFits w64 (pos 0 -ℤ c.most_friction-most.result) = fits_signed_from_abs w64 (pos 0 -ℤ c.most_friction-most.result) (omega (arith, ints, c.most_friction-most.ensures.within)) in
    simp to_z-of_z (omega (arith, ints, c.most_friction-most.ensures.within))

pub returns-clause-value : goal.returns-clause-value
returns-clause-value c =
    let friction : SFits w64 c.args.friction = c.ranges.friction in
    let normal_impulse : SFits w64 c.args.after_normal.total = search rules in
    let tangent_impulse : SFits w64 c.args.point.now.tangent_impulse = search rules in
    let most : SFits w64 c.most_friction-most.result = record { sfits = c.most_friction-most.type_inv } in
    let least : SFits w64 (pos 0 -ℤ c.most_friction-most.result) = fits_signed_from_abs w64 (pos 0 -ℤ c.most_friction-most.result) (omega (arith, ints, c.most_friction-most.ensures.within)) in
    let limit = simp to_z-of_z at c.most_friction-most.ensures.value in
    let value = rw (c.tangent_line.ensures, negative c.most_friction-most.result, limit) at (simp to_z-of_z at c.solve_line_64.ensures.value) in
    let p = with_impulses c.args.point.now c.args.after_normal.total c.args.point.now.tangent_impulse in
    let e = ends_with c.args.a.now c.args.b.now c.args.after_normal.now in
    some_then (λ (r : Exerted64). solved_impulse (tangent_line p) (pos 0) (neg_ℤ (most_friction c.args.friction p.normal_impulse)) (most_friction c.args.friction p.normal_impulse) p.tangent_impulse e ≡ record { ends = ends_with c.args.a.now c.args.b.now r.now; total = r.total })
    (λ (r : Exerted64). tangent_solved c.args.friction p e ≡ record { point = with_impulses c.args.point.now c.args.after_normal.total r.total; ends = ends_with c.args.a.now c.args.b.now r.now })
    c.solve_line_64.result (λ r h. ap (with_tangent p) h) value

pub returns-clause-small : goal.returns-clause-small
returns-clause-small c =
    let most : SFits w64 c.most_friction-most.result = record { sfits = c.most_friction-most.type_inv } in
    let least : SFits w64 (pos 0 -ℤ c.most_friction-most.result) = fits_signed_from_abs w64 (pos 0 -ℤ c.most_friction-most.result) (omega (arith, ints, c.most_friction-most.ensures.within)) in
    let low = rw (negative c.most_friction-most.result) at (simp to_z-of_z at c.solve_line_64.ensures.low) in
    let high = simp to_z-of_z at c.solve_line_64.ensures.high in
    let both = some_both (λ (r : Exerted64). neg_ℤ c.most_friction-most.result ≤ℤ r.total) (λ (r : Exerted64). r.total ≤ℤ c.most_friction-most.result) c.solve_line_64.result low high in
    some_then (λ (r : Exerted64). (neg_ℤ c.most_friction-most.result ≤ℤ r.total) × (r.total ≤ℤ c.most_friction-most.result)) (λ (r : Exerted64). unsigned_abs r.total ≤ 2 ^ 43) c.solve_line_64.result
    (λ r h. within_by c.most_friction-most.result r.total c.most_friction-most.ensures.within h.0 h.1) both

pub returns-clause-room : goal.returns-clause-room
returns-clause-room c =
    let friction : SFits w64 c.args.friction = c.ranges.friction in
    let normal_impulse : SFits w64 c.args.after_normal.total = search rules in
    let tangent_impulse : SFits w64 c.args.point.now.tangent_impulse = search rules in
    let most : SFits w64 c.most_friction-most.result = record { sfits = c.most_friction-most.type_inv } in
    let least : SFits w64 (pos 0 -ℤ c.most_friction-most.result) = fits_signed_from_abs w64 (pos 0 -ℤ c.most_friction-most.result) (omega (arith, ints, c.most_friction-most.ensures.within)) in
    let limit = simp to_z-of_z at c.most_friction-most.ensures.value in
    rw (c.tangent_line.ensures, negative c.most_friction-most.result, limit) at (simp to_z-of_z at c.solve_line_64.ensures.room)
