use Rattle.std.proofs.Common.{unsigned_abs, arith, rules, refl}
use Rattle.std.proofs.lemmas.Int.{to_z-of_z}
use Rattle.std.specs.Int.{w64}
use mir.Val.{SFits}
use Rattle.fixed_geom.proofs.Sizes.{IsSum64, sum_64, IsDifference64, difference_64}
use Rattle.fixed_geom.proofs.TurnLemmas.{tangent_le, swung_long}
use Rattle.fixed_geom.proofs.facings.swung.Goals as goal

pub overflow_sub-result : goal.overflow_sub-result
overflow_sub-result c =
    let qs : SFits w64 c.args.q.s = search rules in
    let w : SFits w64 c.args.w = c.ranges.w in
    let step = tangent_le c.args.w c.args.q.s c.spin_scaled_64.result c.requires.spin (λ k h. c.spin_scaled_64.ensures.within k (simp to_z-of_z h)) in
    (difference_64 c.args.q.c c.spin_scaled_64.result (omega (arith, c.requires.facing.c)) (omega (arith, step, c.requires.facing.s))).fits

pub overflow_add-result : goal.overflow_add-result
overflow_add-result c =
    let qc : SFits w64 c.args.q.c = search rules in
    let w : SFits w64 c.args.w = c.ranges.w in
    let step = tangent_le c.args.w c.args.q.c c.spin_scaled_64-2.result c.requires.spin (λ k h. c.spin_scaled_64-2.ensures.within k (simp to_z-of_z h)) in
    (sum_64 c.args.q.s c.spin_scaled_64-2.result (omega (arith, c.requires.facing.s)) (omega (arith, step, c.requires.facing.c))).fits

pub returns : goal.returns
returns c =
    let qc : SFits w64 c.args.q.c = search rules in
    let qs : SFits w64 c.args.q.s = search rules in
    let w : SFits w64 c.args.w = c.ranges.w in
    let across = tangent_le c.args.w c.args.q.s c.spin_scaled_64.result c.requires.spin (λ k h. c.spin_scaled_64.ensures.within k (simp to_z-of_z h)) in
    let along = tangent_le c.args.w c.args.q.c c.spin_scaled_64-2.result c.requires.spin (λ k h. c.spin_scaled_64-2.ensures.within k (simp to_z-of_z h)) in
    let x : IsDifference64 c.args.q.c c.spin_scaled_64.result = difference_64 c.args.q.c c.spin_scaled_64.result (omega (arith, c.requires.facing.c)) (omega (arith, across, c.requires.facing.s)) in
    let y : IsSum64 c.args.q.s c.spin_scaled_64-2.result = sum_64 c.args.q.s c.spin_scaled_64-2.result (omega (arith, c.requires.facing.s)) (omega (arith, along, c.requires.facing.c)) in
    let first = simp to_z-of_z at c.spin_scaled_64.ensures.value in
    let second = simp to_z-of_z at c.spin_scaled_64-2.ensures.value in
    record {
      value = rw (x.value, y.value, first, second) refl;
      within = rw (x.value, y.value) (record {
        x = omega (arith, x.size, across, c.requires.facing.c, c.requires.facing.s);
        y = omega (arith, y.size, along, c.requires.facing.c, c.requires.facing.s);
      });
      long = rw (x.value, y.value) (record {
        long = swung_long (unsigned_abs c.args.q.c) (unsigned_abs c.args.q.s) _ _ (unsigned_abs c.spin_scaled_64.result) (unsigned_abs c.spin_scaled_64-2.result) c.requires.facing.long across along x.least y.least;
      });
    }
