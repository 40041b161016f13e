use Rattle.std.proofs.Common.{◌≡◌, ◌∙◌, ap, sym, pos, rules}
use Rattle.std.proofs.lemmas.Int.{to_z-of_z}
use Rattle.std.specs.Int.{w64}
use mir.Val.{SFits, to_z}
use Rattle.momenta.specs.declared.state.Ends.{Ends}
use Rattle.momenta.specs.ImpulseBounds.{AreStates}
use Rattle.momenta.proofs.NoImpulse.{warmed_none}
use Rattle.colour_solver_base.specs.declared.row.PointRow.{PointRow}
use Rattle.colour_solver_base.specs.Rows.{point_warmed, normal_line, tangent_line}
use Rattle.colour_solver_base.proofs.warm_start.point_has_no_impulses.Goals as goal

unpushed : (p : PointRow) → p.normal_impulse ≡ pos 0 → p.tangent_impulse ≡ pos 0 → (e : Ends) → AreStates e → point_warmed p e ≡ e
unfolding point_warmed
unpushed p h k e states = rw (h, k, warmed_none (normal_line p) e states) (warmed_none (tangent_line p) e states)

pub returns-else-point-ne0-2 : goal.returns-else-point-ne0-2
returns-else-point-ne0-2 c = λ h.
    let normal_impulse : SFits w64 c.args.point.now.normal_impulse = search rules in
    let tangent_impulse : SFits w64 c.args.point.now.tangent_impulse = search rules in
    unpushed c.args.point.now (sym (to_z-of_z w64 c.args.point.now.normal_impulse normal_impulse) ∙ ap (to_z w64) c.if-point-ne0.false) (sym (to_z-of_z w64 c.args.point.now.tangent_impulse tangent_impulse) ∙ ap (to_z w64) c.if-point-ne0-2.false)
