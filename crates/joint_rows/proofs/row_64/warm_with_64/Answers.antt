use Rattle.std.proofs.Common.{◌≡◌, ◌∙◌, sym, ap, rules}
use Rattle.std.proofs.lemmas.Int.{to_z-of_z}
use Rattle.std.specs.Int.{w64}
use mir.Val.{SFits}
use Rattle.momenta.specs.declared.state.Ends.{Ends}
use Rattle.momenta.specs.Impulses.{warmed}
use Rattle.momenta.specs.Line64.{ends_with}
use Rattle.momenta.proofs.NoImpulse.{warmed_none}
use Rattle.joint_rows.specs.declared.row.JointRow.{JointRow}
use Rattle.joint_rows.specs.declared.solve.JointAfter.{JointAfter}
use Rattle.joint_rows.specs.Rows.{joint_warmed}
use Rattle.joint_rows.proofs.Laws64.{after_of}
use Rattle.joint_rows.proofs.row_64.warm_with_64.Goals as goal

abbrev turned : JointRow → Ends → JointAfter
turned r e = record { row = r; ends = e }

warmed_is : (r : JointRow) (e f : Ends) → f ≡ warmed r.line r.impulse e → joint_warmed r e ≡ turned r f
unfolding joint_warmed
warmed_is r e f h = ap (turned r) (sym h)

pub returns-in-Some-clause-value : goal.returns-in-Some-clause-value
returns-in-Some-clause-value c =
    let impulse : SFits w64 c.args.row.now.impulse = search rules in
    let r = c.args.row.now in
    let e = ends_with c.args.a.now c.args.b.now c.args.now in
    let twice = simp to_z-of_z at c.in-Some.ensures.value in
    let once = twice ∙ ap (warmed r.line r.impulse) (warmed_none r.line e c.requires.states) in
    simp to_z-of_z (after_of (joint_warmed r e) r c.args.a.now c.args.b.now c.args.now (record { now = c.in-Some.now; total = r.impulse }) c.requires.row
    (warmed_is r e (ends_with c.args.a.now c.args.b.now c.in-Some.now) once) c.in-Some.ensures.impulse c.requires.row.impulse)
