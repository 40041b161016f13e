use Rattle.std.proofs.Common.{◌≡◌, ◌∙◌, ap, IfSome, ◌^◌, ◌≤ℤ◌, pos, neg_ℤ, rules}
use Rattle.std.proofs.lemmas.Int.{to_z-of_z}
use Rattle.std.specs.Int.{w64}
use mir.Val.{SFits}
use Rattle.momenta.specs.declared.line_64.Exerted64.{Exerted64}
use Rattle.momenta.specs.Impulses.{solved_impulse}
use Rattle.momenta.specs.Line64.{IsImpulse, ends_with}
use Rattle.momenta.proofs.Laws64.{some_both, some_then}
use Rattle.joint_rows.specs.Joints.{joint_bias}
use Rattle.joint_rows.specs.Rows.{joint_solved, stretch_now}
use Rattle.joint_rows.specs.Row64.{IsJointAfter64}
use Rattle.joint_rows.proofs.Laws64.{same_stretch, solved_after}
use Rattle.joint_rows.proofs.row_64.solve_with_64.Goals as goal

bias_is : (c : goal.After-solve_line_64) → c.bias_of-bias.result ≡ joint_bias (stretch_now c.args.row.now (ends_with c.args.a.now c.args.b.now c.args.now))
bias_is c =
    let stretch : SFits w64 c.stretch_between.result = record { sfits = c.stretch_between.type_inv } in
    (simp to_z-of_z at c.bias_of-bias.ensures.value) ∙ ap joint_bias (c.stretch_between.ensures.value ∙ same_stretch c.args.row.now c.args.a.now c.args.b.now c.args.now)

pub returns-clause-value : goal.returns-clause-value
returns-clause-value c =
    let bias : SFits w64 c.bias_of-bias.result = record { sfits = c.bias_of-bias.type_inv } in
    let impulse : SFits w64 c.args.row.now.impulse = search rules in
    let r = c.args.row.now in
    let a = c.args.a.now in
    let b = c.args.b.now in
    let old = c.args.now in
    let value = rw (bias_is c) at (simp to_z-of_z at c.solve_line_64.ensures.value) in
    let low : IfSome c.solve_line_64.result (λ (n : Exerted64). neg_ℤ (pos (2 ^ 42)) ≤ℤ n.total) = c.solve_line_64.ensures.low in
    let high : IfSome c.solve_line_64.result (λ (n : Exerted64). n.total ≤ℤ pos (2 ^ 42)) = c.solve_line_64.ensures.high in
    let moved = some_both (λ (n : Exerted64). solved_impulse r.line (joint_bias (stretch_now r (ends_with a b old))) (neg_ℤ (pos (2 ^ 42))) (pos (2 ^ 42)) r.impulse (ends_with a b old) ≡ record { ends = ends_with a b n.now; total = n.total })
    (λ (n : Exerted64). IsImpulse a b old n.now) c.solve_line_64.result value c.solve_line_64.ensures.impulse in
    let within = some_both (λ (n : Exerted64). neg_ℤ (pos (2 ^ 42)) ≤ℤ n.total) (λ (n : Exerted64). n.total ≤ℤ pos (2 ^ 42)) c.solve_line_64.result low high in
    let all = some_both (λ (n : Exerted64). (solved_impulse r.line (joint_bias (stretch_now r (ends_with a b old))) (neg_ℤ (pos (2 ^ 42))) (pos (2 ^ 42)) r.impulse (ends_with a b old) ≡ record { ends = ends_with a b n.now; total = n.total }) × IsImpulse a b old n.now)
    (λ (n : Exerted64). (neg_ℤ (pos (2 ^ 42)) ≤ℤ n.total) × (n.total ≤ℤ pos (2 ^ 42))) c.solve_line_64.result moved within in
    some_then (λ (n : Exerted64). ((solved_impulse r.line (joint_bias (stretch_now r (ends_with a b old))) (neg_ℤ (pos (2 ^ 42))) (pos (2 ^ 42)) r.impulse (ends_with a b old) ≡ record { ends = ends_with a b n.now; total = n.total }) × IsImpulse a b old n.now) × ((neg_ℤ (pos (2 ^ 42)) ≤ℤ n.total) × (n.total ≤ℤ pos (2 ^ 42))))
    (IsJointAfter64 (joint_solved r (ends_with a b old)) r a b old) c.solve_line_64.result (λ n h. solved_after r a b old n c.requires.row h.0.0 h.0.1 h.1.0 h.1.1) all

pub returns-clause-room : goal.returns-clause-room
returns-clause-room c =
    let bias : SFits w64 c.bias_of-bias.result = record { sfits = c.bias_of-bias.type_inv } in
    let impulse : SFits w64 c.args.row.now.impulse = search rules in
    rw (bias_is c) at (simp to_z-of_z at c.solve_line_64.ensures.room)
