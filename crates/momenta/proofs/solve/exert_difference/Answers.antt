use Rattle.std.proofs.Common.{◌≡◌, ◌∙◌, sym, ◌-ℤ◌, ◌^◌, arith}
use Rattle.std.proofs.lemmas.Int.{to_z-of_z}
use Rattle.std.specs.Int.{w64}
use mir.Val.{SFits}
use Rattle.fixed_geom.proofs.Sizes.{difference_le}
use Rattle.momenta.specs.Impulses.{along, exerted, impulse_pair}
use Rattle.momenta.proofs.ImpulseLaws.{kept_dropped, total_dropped, total_given}
use Rattle.momenta.proofs.Spins.{fits_64}
use Rattle.momenta.proofs.solve.exert_difference.Goals as goal

pub returns-then-impulse_pair-clause-value : goal.returns-then-impulse_pair-clause-value
unfolding exerted
returns-then-impulse_pair-clause-value c =
    let new : SFits w64 c.args.new = c.ranges.new in
    let old : SFits w64 c.args.old = c.ranges.old in
    let more : SFits w64 (c.args.new -ℤ c.args.old) = fits_64 _ (omega (arith, difference_le c.args.new c.args.old (2 ^ 43) (2 ^ 43) c.requires.new c.requires.old)) in
    let impulse : c.along-j.result ≡ along c.args.line.now.direction (c.args.new -ℤ c.args.old) = simp to_z-of_z at c.along-j.ensures.value in
    let passed = impulse_pair (along c.args.line.now.direction (c.args.new -ℤ c.args.old)) c.args.line.now.ra c.args.line.now.rb c.args.ends.now in
    simp to_z-of_z (total_given c.args.old c.args.new c.args.ends.now c.impulse_pair.new.ends passed (rw impulse at c.impulse_pair.ensures.value) (rw impulse at (sym c.if-impulse_pair.true ∙ c.impulse_pair.ensures.given)))

pub returns-else-impulse_pair-clause-value : goal.returns-else-impulse_pair-clause-value
unfolding exerted
returns-else-impulse_pair-clause-value c =
    let new : SFits w64 c.args.new = c.ranges.new in
    let old : SFits w64 c.args.old = c.ranges.old in
    let more : SFits w64 (c.args.new -ℤ c.args.old) = fits_64 _ (omega (arith, difference_le c.args.new c.args.old (2 ^ 43) (2 ^ 43) c.requires.new c.requires.old)) in
    let impulse : c.along-j.result ≡ along c.args.line.now.direction (c.args.new -ℤ c.args.old) = simp to_z-of_z at c.along-j.ensures.value in
    let passed = impulse_pair (along c.args.line.now.direction (c.args.new -ℤ c.args.old)) c.args.line.now.ra c.args.line.now.rb c.args.ends.now in
    simp to_z-of_z (total_dropped c.args.old c.args.new c.args.ends.now c.impulse_pair.new.ends passed (rw impulse at c.impulse_pair.ensures.value) (rw impulse at (sym c.if-impulse_pair.false ∙ c.impulse_pair.ensures.given)))

pub returns-else-impulse_pair-clause-still : goal.returns-else-impulse_pair-clause-still
returns-else-impulse_pair-clause-still c = λ h. kept_dropped _ _ _ c.impulse_pair.ensures.value (sym c.if-impulse_pair.false ∙ c.impulse_pair.ensures.given)
