use Rattle.std.proofs.Common.{◌≡◌, ◌∙◌, refl, rules}
use Rattle.std.proofs.lemmas.Int.{to_z-of_z}
use Rattle.std.specs.Int.{w64}
use mir.Val.{SFits}
use Rattle.momenta.specs.Impulses.{along, warmed}
use Rattle.momenta.proofs.WarmLaws.{AreRoomy, pairs_are_one}
use Rattle.momenta.proofs.warm_start.warm_at_once.Goals as goal

pub returns-clause-given : goal.returns-clause-given
unfolding warmed
returns-clause-given c = λ h.
    let one : SFits w64 c.args.first.impulse = search rules in
    let other : SFits w64 c.args.second.impulse = search rules in
    let j : c.along.result ≡ along c.args.first.line.direction c.args.first.impulse = simp to_z-of_z at c.along.ensures.value in
    let k : c.along-2.result ≡ along c.args.second.line.direction c.args.second.impulse = simp to_z-of_z at c.along-2.ensures.value in
    let room : AreRoomy c.args.ends.now = record { a = c.if-not-is_roomy.ensures refl; b = c.if-not-is_roomy-2.ensures refl } in
    let both = rw c.plus-j.ensures.value at c.impulse_pair.ensures.value in
    rw (c.requires.ra, c.requires.rb, ← j, ← k) (both ∙ pairs_are_one c.along.result c.along-2.result c.args.first.line.ra c.args.first.line.rb c.args.ends.now room c.along.ensures.within c.along-2.ensures.within c.requires.first.ra c.requires.first.rb)
