use Rattle.std.proofs.Common.{◌≡◌, ◌∙◌, ap, sym, ◌^◌, Some, refl, arith, rules}
use Rattle.std.proofs.lemmas.Int.{to_z-of_z, ints}
use Rattle.std.specs.Int.{w64}
use Rattle.std.specs.Prelude.{unwrap_or, Option}
use mir.Val.{SFits}
use Rattle.fixed_geom.specs.Vectors.{IsWithin, plus}
use Rattle.momenta.specs.Impulses.{along, impulse_pair, warmed}
use Rattle.momenta.specs.Line64.{ends_with}
use Rattle.momenta.proofs.Laws64.{both_roomy, half_wider, sum_small}
use Rattle.momenta.proofs.WarmLaws.{pairs_are_one}
use Rattle.momenta.proofs.line_64.warm_at_once_64.Goals as goal
use Rattle.momenta.specs.declared.state.Ends.{Ends}

pub plus-j-requires-clause-first : goal.plus-j-requires-clause-first
plus-j-requires-clause-first c = half_wider (2 ^ 61) c.along_64.result (omega arith) (c.along_64.ensures.within (2 ^ 29) (c.if-not-are_in.ensures.x refl))

pub plus-j-requires-clause-second : goal.plus-j-requires-clause-second
plus-j-requires-clause-second c = half_wider (2 ^ 61) c.along_64-2.result (omega arith) (c.along_64-2.ensures.within (2 ^ 29) (c.if-not-are_in.ensures.y refl))

pub impulse_pair_64-requires-clause-impulse : goal.impulse_pair_64-requires-clause-impulse
impulse_pair_64-requires-clause-impulse c = rw c.plus-j.ensures.value (sum_small c.along_64.result c.along_64-2.result (c.along_64.ensures.within (2 ^ 29) (c.if-not-are_in.ensures.x refl)) (c.along_64-2.ensures.within (2 ^ 29) (c.if-not-are_in.ensures.y refl)))

pub returns-clause-value : goal.returns-clause-value
unfolding warmed
returns-clause-value c =
    let one : SFits w64 c.args.first.impulse = search rules in
    let other : SFits w64 c.args.second.impulse = search rules in
    let first : IsWithin (2 ^ 29) c.along_64.result = c.along_64.ensures.within (2 ^ 29) (c.if-not-are_in.ensures.x refl) in
    let second : IsWithin (2 ^ 29) c.along_64-2.result = c.along_64-2.ensures.within (2 ^ 29) (c.if-not-are_in.ensures.y refl) in
    let e = ends_with c.args.a.now c.args.b.now c.args.now in
    let j : c.along_64.result ≡ along c.args.first.line.direction c.args.first.impulse = simp to_z-of_z at c.along_64.ensures.value in
    let k : c.along_64-2.result ≡ along c.args.second.line.direction c.args.second.impulse = simp to_z-of_z at c.along_64-2.ensures.value in
    let both : impulse_pair (plus c.along_64.result c.along_64-2.result) c.args.first.line.ra c.args.first.line.rb e ≡ Some (ends_with c.args.a.now c.args.b.now c.impulse_pair_64.result) = rw c.plus-j.ensures.value at c.impulse_pair_64.ensures.value in
    rw (c.requires.ra, c.requires.rb, ← j, ← k) (ap (λ (o : Option Ends). unwrap_or o e) (sym both) ∙ pairs_are_one c.along_64.result c.along_64-2.result c.args.first.line.ra c.args.first.line.rb e (both_roomy c.args.a.now c.args.b.now c.args.now c.requires.leaves_room)
    (half_wider (2 ^ 44) c.along_64.result (omega arith) first) (half_wider (2 ^ 44) c.along_64-2.result (omega arith) second) c.requires.first.ra c.requires.first.rb)

pub returns-then-not-are_in-clause-room : goal.returns-then-not-are_in-clause-room
returns-then-not-are_in-clause-room c =
    let one : SFits w64 c.args.first.impulse = search rules in
    let other : SFits w64 c.args.second.impulse = search rules in
    λ first second. c.if-not-are_in.ensures.room (simp to_z-of_z (omega (arith, ints, first))) (simp to_z-of_z (omega (arith, ints, second)))
