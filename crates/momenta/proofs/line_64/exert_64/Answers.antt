use Rattle.std.proofs.Common.{◌≡◌, ◌∙◌, ap, sym, ◌-ℤ◌, ◌^◌, refl, arith}
use Rattle.std.proofs.lemmas.Int.{to_z-of_z, ints}
use Rattle.std.specs.Int.{w64}
use mir.Val.{SFits, to_z, of_z}
use Rattle.fixed_geom.proofs.Sizes.{difference_le}
use Rattle.momenta.specs.Impulses.{along, exerted}
use Rattle.momenta.specs.Line64.{ends_with}
use Rattle.momenta.proofs.NoImpulse.{exerted_none}
use Rattle.momenta.proofs.Laws64.{both_still}
use Rattle.momenta.proofs.Spins.{fits_64}
use Rattle.momenta.proofs.line_64.exert_64.Goals as goal

pub returns-then-new-old-clause-value : goal.returns-then-new-old-clause-value
returns-then-new-old-clause-value c =
    let new : SFits w64 c.args.new = c.ranges.new in
    let same : c.args.new ≡ c.args.old = sym (to_z-of_z w64 c.args.new c.ranges.new) ∙ ap (to_z w64) c.if-new-old.true ∙ to_z-of_z w64 c.args.old c.ranges.old in
    simp to_z-of_z (rw same (exerted_none c.args.line.now c.args.old (ends_with c.args.a.now c.args.b.now c.args.now) c.requires.states))

pub returns-then-new-old-clause-impulse : goal.returns-then-new-old-clause-impulse
returns-then-new-old-clause-impulse c = both_still c.args.a.now c.args.b.now c.args.now c.requires.states

pub impulse_pair_64-requires-clause-impulse : goal.impulse_pair_64-requires-clause-impulse
impulse_pair_64-requires-clause-impulse c = c.along_64-j.ensures.within (2 ^ 30) (c.if-not-is_in.ensures.within refl)

pub returns-clause-value : goal.returns-clause-value
unfolding exerted
returns-clause-value c =
    let new : SFits w64 c.args.new = c.ranges.new in
    let old : SFits w64 c.args.old = c.ranges.old in
    let more : SFits w64 (c.args.new -ℤ c.args.old) = fits_64 _ (omega (arith, difference_le c.args.new c.args.old (2 ^ 43) (2 ^ 43) c.requires.new c.requires.old)) in
    let impulse : c.along_64-j.result ≡ along c.args.line.now.direction (c.args.new -ℤ c.args.old) = simp to_z-of_z at c.along_64-j.ensures.value in
    let given = rw impulse at c.impulse_pair_64.ensures.value in
    simp to_z-of_z (rw given refl)

pub returns-clause-still : goal.returns-clause-still
returns-clause-still c =
    let new : SFits w64 c.args.new = c.ranges.new in
    λ e. absurd (c.if-new-old.false (ap (of_z w64) (sym (to_z-of_z w64 c.args.new c.ranges.new) ∙ e)))

pub returns-then-not-is_in-clause-room : goal.returns-then-not-is_in-clause-room
returns-then-not-is_in-clause-room c =
    let new : SFits w64 c.args.new = c.ranges.new in
    let old : SFits w64 c.args.old = c.ranges.old in
    let more : SFits w64 (c.args.new -ℤ c.args.old) = fits_64 _ (omega (arith, difference_le c.args.new c.args.old (2 ^ 43) (2 ^ 43) c.requires.new c.requires.old)) in
    λ small. c.if-not-is_in.ensures.room (simp to_z-of_z (omega (arith, ints, small)))
