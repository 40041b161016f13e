use Rattle.std.proofs.Common.{◌≡◌, arith, unsigned_abs}
use Rattle.std.proofs.lemmas.Int.{to_z-of_z}
use Rattle.fixed_geom.proofs.FacingLemmas.{is_facing-then, is_facing-else, is_facing-long}
use Rattle.fixed_geom.proofs.facings.is_facing.Goals as goal

pub returns-then-c-gt-MAX_FACING-clause-value : goal.returns-then-c-gt-MAX_FACING-clause-value
returns-then-c-gt-MAX_FACING-clause-value c =
    let cosine : c.unsigned_abs-c.result ≡ unsigned_abs c.args.q.c = grind (arith, to_z-of_z) in
    let sine : c.unsigned_abs-s.result ≡ unsigned_abs c.args.q.s = grind (arith, to_z-of_z) in
    is_facing-long c.args.q _ _ cosine sine c.then-c-gt-MAX_FACING.either

pub returns-then-square-clause-value : goal.returns-then-square-clause-value
returns-then-square-clause-value c =
    let cosine : c.unsigned_abs-c.result ≡ unsigned_abs c.args.q.c = grind (arith, to_z-of_z) in
    let sine : c.unsigned_abs-s.result ≡ unsigned_abs c.args.q.s = grind (arith, to_z-of_z) in
    is_facing-then c.args.q _ _ cosine sine c.if-square.true

pub returns-else-square-clause-value : goal.returns-else-square-clause-value
returns-else-square-clause-value c =
    let cosine : c.unsigned_abs-c.result ≡ unsigned_abs c.args.q.c = grind (arith, to_z-of_z) in
    let sine : c.unsigned_abs-s.result ≡ unsigned_abs c.args.q.s = grind (arith, to_z-of_z) in
    is_facing-else c.args.q _ _ cosine sine c.if-square.false
