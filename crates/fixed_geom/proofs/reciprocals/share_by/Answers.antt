use Rattle.std.proofs.Common.{ap, rules}
use Rattle.std.proofs.lemmas.Int.{to_z-of_z}
use Rattle.std.specs.Int.{w64}
use mir.Val.{SFits, of_z}
use Rattle.fixed_geom.proofs.ReciprocalLemmas.{share_small, share_sure}
use Rattle.fixed_geom.proofs.reciprocals.share_by.Goals as goal

pub sure_quotient-requires-clause-r : goal.sure_quotient-requires-clause-r
sure_quotient-requires-clause-r c =
    let r : SFits w64 c.args.reciprocal = c.ranges.reciprocal in
    simp to_z-of_z (share_small c.args.k c.args.reciprocal c.requires.reciprocal (λ e. c.if-reciprocal-eq0.false (ap (of_z w64) e)))

pub returns-then-is_small_share-clause-value : goal.returns-then-is_small_share-clause-value
returns-then-is_small_share-clause-value c =
    let x : SFits w64 c.args.x = c.ranges.x in
    let r : SFits w64 c.args.reciprocal = c.ranges.reciprocal in
    let q : SFits w64 c.in-Some.q = search rules in
    simp to_z-of_z (share_sure c.args.x c.args.k c.args.reciprocal c.in-Some.q c.requires.reciprocal (λ e. c.if-reciprocal-eq0.false (ap (of_z w64) e)) (simp to_z-of_z at c.in-Some.ensures) (simp to_z-of_z at (c.is_small_share.ensures c.if-is_small_share.true)))
