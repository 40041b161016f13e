use Rattle.std.proofs.Common.{◌≡◌, ap, sym, ◌∙◌, pos, to_z, inl, inr, refl}
use Rattle.std.proofs.lemmas.Int.{to_z-of_z}
use Rattle.std.specs.Int.{w64}
use Rattle.momenta.proofs.Shares.{turning_none}
use Rattle.momenta.proofs.inverse.turning_share.Goals as goal

pub returns-then-lever-eq0-clause-value : goal.returns-then-lever-eq0-clause-value
returns-then-lever-eq0-clause-value c =
    elim c.if-lever-eq0.either [
      | inl h ↦ (
          let fixed : c.args.inertia ≡ pos 0 = sym (to_z-of_z w64 c.args.inertia c.ranges.inertia) ∙ ap (to_z w64) h in
          rw fixed refl)
      | inr h ↦ (
          let through : c.args.lever ≡ pos 0 = sym (to_z-of_z w64 c.args.lever c.ranges.lever) ∙ ap (to_z w64) h.1 in
          rw (through, turning_none c.args.inertia c.requires.inertia) refl)
    ]
