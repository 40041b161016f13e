use Rattle.std.proofs.Common.{◌^◌, unsigned_abs, arith}
use Rattle.std.proofs.lemmas.Bool.{le-leb, lt-leb}
use Rattle.std.proofs.lemmas.Int.{to_z-of_z}
use Rattle.std.specs.Int.{w64}
use mir.Val.{SFits}
use Rattle.fixed_geom.specs.Numbers.{rdiv}
use Rattle.momenta.proofs.Rounding.{rdiv_slow, rdiv_fast, rdiv_at}
use Rattle.momenta.proofs.speed_limit.clamp_component.Goals as goal

pub returns-then-unsigned_abs-clause-slow : goal.returns-then-unsigned_abs-clause-slow
returns-then-unsigned_abs-clause-slow c =
    let p : SFits w64 c.args.p = c.ranges.p in
    let m : SFits w64 c.args.mass = c.ranges.mass in
    let size = simp to_z-of_z at c.unsigned_abs.ensures.value in
    let mass = simp to_z-of_z at c.unsigned_abs-2.ensures.value in
    let below = rw c.unsigned_abs-3.ensures.value at c.if-unsigned_abs.true in
    simp to_z-of_z (rdiv_slow c.args.p c.args.mass (2 ^ 20) c.requires.positive (omega (arith, size, mass, below)))

pub returns-then-unsigned_abs-clause-value : goal.returns-then-unsigned_abs-clause-value
returns-then-unsigned_abs-clause-value c =
    let p : SFits w64 c.args.p = c.ranges.p in
    let slow = simp to_z-of_z at (returns-then-unsigned_abs-clause-slow c) in
    rw (le-leb (unsigned_abs (rdiv c.args.p c.args.mass)) (2 ^ 20) slow) (simp to_z-of_z)

pub returns-else-unsigned_abs-clause-value : goal.returns-else-unsigned_abs-clause-value
returns-else-unsigned_abs-clause-value c =
    let p : SFits w64 c.args.p = c.ranges.p in
    let m : SFits w64 c.args.mass = c.ranges.mass in
    let limit : SFits w64 c.limit_of.result = record { sfits = c.limit_of.type_inv } in
    let size = simp to_z-of_z at c.unsigned_abs.ensures.value in
    let mass = simp to_z-of_z at c.unsigned_abs-2.ensures.value in
    let above = rw c.unsigned_abs-3.ensures.value at c.if-unsigned_abs.false in
    let fast = rdiv_fast c.args.p c.args.mass (2 ^ 20) c.requires.positive (omega (arith, size, mass, above)) in
    let value = simp to_z-of_z at c.limit_of.ensures.value in
    rw (lt-leb (unsigned_abs (rdiv c.args.p c.args.mass)) (2 ^ 20) fast) (simp to_z-of_z value)

pub returns-else-unsigned_abs-clause-slow : goal.returns-else-unsigned_abs-clause-slow
returns-else-unsigned_abs-clause-slow c =
    let m : SFits w64 c.args.mass = c.ranges.mass in
    let limit : SFits w64 c.limit_of.result = record { sfits = c.limit_of.type_inv } in
    simp to_z-of_z (rdiv_at c.limit_of.result c.args.mass (2 ^ 20) c.requires.positive (simp to_z-of_z at c.limit_of.ensures.size))
