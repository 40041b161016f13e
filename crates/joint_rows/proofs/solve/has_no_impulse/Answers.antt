use Rattle.std.proofs.Common.{◌≡◌, ◌∙◌, ap, sym, pos, rules}
use Rattle.std.proofs.lemmas.Int.{to_z-of_z}
use Rattle.std.proofs.lemmas.Bool.{eqb-true}
use Rattle.std.specs.Int.{w64}
use mir.Val.{SFits, to_z, of_z}
use Rattle.momenta.specs.declared.state.Ends.{Ends}
use Rattle.momenta.specs.Impulses.{warmed}
use Rattle.momenta.specs.ImpulseBounds.{AreStates}
use Rattle.momenta.proofs.NoImpulse.{warmed_none}
use Rattle.joint_rows.specs.declared.row.JointRow.{JointRow}
use Rattle.joint_rows.specs.declared.solve.JointAfter.{JointAfter}
use Rattle.joint_rows.specs.Rows.{joint_warmed}
use Rattle.joint_rows.proofs.solve.has_no_impulse.Goals as goal

abbrev turned : JointRow → Ends → JointAfter
turned r e = record { row = r; ends = e }

unpushed : (r : JointRow) → r.impulse ≡ pos 0 → (e : Ends) → AreStates e → joint_warmed r e ≡ turned r e
unfolding joint_warmed
unpushed r h e states = ap (turned r) (ap (λ z. warmed r.line z e) h ∙ warmed_none r.line e states)

pub returns : goal.returns
returns c = λ h.
    let impulse : SFits w64 c.args.row.now.impulse = search rules in
    unpushed c.args.row.now (sym (to_z-of_z w64 c.args.row.now.impulse impulse) ∙ ap (to_z w64) (eqb-true (of_z w64 c.args.row.now.impulse) 0 h))
