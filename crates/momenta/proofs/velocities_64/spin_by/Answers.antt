use Rattle.std.proofs.Common.{◌≡◌, ap, sym, ◌∙◌, pos, to_z, inl, inr}
use Rattle.std.proofs.lemmas.Int.{to_z-of_z}
use Rattle.std.specs.Int.{w64, w128}
use Rattle.momenta.proofs.Spins.{spin_fixed, spin_still}
use Rattle.momenta.proofs.velocities_64.spin_by.Goals as goal

pub returns-then-inertia-eq0-clause-value : goal.returns-then-inertia-eq0-clause-value
returns-then-inertia-eq0-clause-value c =
    elim c.if-inertia-eq0.either [
      | inl h ↦ (
          let still : c.args.l ≡ pos 0 = sym (to_z-of_z w128 c.args.l c.ranges.l) ∙ ap (to_z w128) h in
          rw (still, spin_still c.args.inertia c.requires.nonnegative))
      | inr h ↦ (
          let fixed : c.args.inertia ≡ pos 0 = sym (to_z-of_z w64 c.args.inertia c.ranges.inertia) ∙ ap (to_z w64) h.1 in
          rw (fixed, spin_fixed c.args.l))
    ]
