use Rattle.std.proofs.Common.{◌≤◌, ◌*◌, ◌^◌, unsigned_abs, arith, rules}
use Rattle.std.proofs.lemmas.Int.{to_z-of_z}
use Rattle.std.proofs.lemmas.Nat.{mul-le}
use Rattle.std.specs.Int.{w64}
use mir.Val.{SFits}
use Rattle.fixed_geom.proofs.vectors.moved.Goals as goal

pub returns-clause-within : goal.returns-clause-within
returns-clause-within c = λ m j k h l n.
    let px : SFits w64 c.args.p.x = search rules in
    let py : SFits w64 c.args.p.y = search rules in
    let dx : SFits w64 c.args.d.x = search rules in
    let dy : SFits w64 c.args.d.y = search rules in
    let t : SFits w64 c.args.t = c.ranges.t in
    let first : SFits w64 c.shifted.result = record { sfits = c.shifted.type_inv } in
    let second : SFits w64 c.shifted-2.result = record { sfits = c.shifted-2.type_inv } in
    let x : (unsigned_abs c.args.d.x * unsigned_abs c.args.t) ≤ k * 2 ^ 30 = omega (arith, mul-le (unsigned_abs c.args.d.x) (unsigned_abs c.args.t) j (unsigned_abs c.args.t) l.x (omega arith)) in
    let y : (unsigned_abs c.args.d.y * unsigned_abs c.args.t) ≤ k * 2 ^ 30 = omega (arith, mul-le (unsigned_abs c.args.d.y) (unsigned_abs c.args.t) j (unsigned_abs c.args.t) l.y (omega arith)) in
    record {
      x = simp to_z-of_z (c.shifted.ensures.within m k (simp to_z-of_z h.x) (simp to_z-of_z x));
      y = simp to_z-of_z (c.shifted-2.ensures.within m k (simp to_z-of_z h.y) (simp to_z-of_z y));
    }
