use Rattle.std.proofs.Common.{◌≡◌, ◌∙◌, ap, ◌^◌, ◌≤◌, ◌≤ℤ◌, pos, neg_ℤ, ℤ, unsigned_abs, arith, rules}
use Rattle.std.proofs.lemmas.Int.{to_z-of_z, ints}
use Rattle.std.specs.Int.{w64}
use mir.Val.{SFits}
use Rattle.joint_rows.specs.Joints.{joint_bias}
use Rattle.joint_rows.specs.Rows.{joint_solved, stretch_now, with_exerted}
use Rattle.joint_rows.proofs.solve.solve_joint.Goals as goal

within_by : (old new : ℤ) → unsigned_abs old ≤ 2 ^ 42 → (neg_ℤ (pos (2 ^ 42)) ≤ℤ old → neg_ℤ (pos (2 ^ 42)) ≤ℤ new) → (old ≤ℤ pos (2 ^ 42) → new ≤ℤ pos (2 ^ 42)) → unsigned_abs new ≤ 2 ^ 42
within_by old new h low high =
    let below : neg_ℤ (pos (2 ^ 42)) ≤ℤ new = low (omega (arith, ints, h)) in
    let above : new ≤ℤ pos (2 ^ 42) = high (omega (arith, ints, h)) in
    omega (arith, ints, below, above)

pub returns-clause-value : goal.returns-clause-value
unfolding joint_solved
returns-clause-value c =
    let stretch : SFits w64 c.stretch_between.result = record { sfits = c.stretch_between.type_inv } in
    let bias : SFits w64 c.bias_of-bias.result = record { sfits = c.bias_of-bias.type_inv } in
    let impulse : SFits w64 c.args.row.now.impulse = search rules in
    let total : SFits w64 c.solve_line-row.result = record { sfits = c.solve_line-row.type_inv } in
    let is : c.bias_of-bias.result ≡ joint_bias (stretch_now c.args.row.now c.args.ends.now) = (simp to_z-of_z at c.bias_of-bias.ensures.value) ∙ ap joint_bias c.stretch_between.ensures.value in
    simp to_z-of_z (ap (with_exerted c.args.row.now) (rw is at (simp to_z-of_z at c.solve_line-row.ensures.value)))

pub returns-clause-row : goal.returns-clause-row
returns-clause-row c =
    let impulse : SFits w64 c.args.row.now.impulse = search rules in
    let total : SFits w64 c.solve_line-row.result = record { sfits = c.solve_line-row.type_inv } in
    let now = c.requires.row in
    simp to_z-of_z (record {
      line = now.line;
      stretch = now.stretch;
      impulse = within_by c.args.row.now.impulse c.solve_line-row.result now.impulse (simp to_z-of_z at c.solve_line-row.ensures.low) (simp to_z-of_z at c.solve_line-row.ensures.high);
    })
