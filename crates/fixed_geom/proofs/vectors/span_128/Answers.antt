use Rattle.std.proofs.Common.{◌≡◌, ◌≤◌, ◌<◌, ◌^◌, ◌*◌, unsigned_abs, arith, ◌∙◌}
use Rattle.std.proofs.lemmas.Int.{to_z-of_z, ints}
use Rattle.std.specs.Int.{w64, w128}
use mir.Val.{SFits, to_z, of_z}
use Rattle.fixed_geom.specs.Vectors.{dot, span}
use Rattle.fixed_geom.proofs.Sizes.{fits_64, narrowed}
use Rattle.fixed_geom.proofs.VectorLemmas.{dot_self, span_spans}
use Rattle.fixed_geom.proofs.vectors.span_128.Goals as goal

pub isqrt-requires : goal.isqrt-requires
isqrt-requires c =
    let fits : SFits w128 c.dot.result = record { sfits = c.dot.type_inv } in
    let dotted : c.dot.result ≡ dot c.args.d c.args.d = c.dot.ensures.value in
    let whole = dotted ∙ dot_self c.args.d in
    simp to_z-of_z (rw whole (omega (arith, ints)))

rooted : (c : goal.After-isqrt) → c.isqrt.result ≡ span c.args.d
unfolding span
rooted c =
    let fits : SFits w128 c.dot.result = record { sfits = c.dot.type_inv } in
    let dotted : c.dot.result ≡ dot c.args.d c.args.d = c.dot.ensures.value in
    let value = simp to_z-of_z at c.isqrt.ensures.value in
    rw (← dotted) value

small : (c : goal.After-isqrt) → unsigned_abs c.isqrt.result < 2 ^ 63
small c =
    let bound : unsigned_abs (span c.args.d) ≤ 2 * 2 ^ 61 = (span_spans c.args.d).within (2 ^ 61) c.requires in
    rw (rooted c) (omega (arith, bound))

whole : (c : goal.After-isqrt) → to_z w64 (of_z w64 (to_z w128 (of_z w128 c.isqrt.result))) ≡ span c.args.d
whole c = narrowed c.isqrt.result (small c) ∙ rooted c

pub overflow_cast-result : goal.overflow_cast-result
overflow_cast-result c = fits_64 c.isqrt.result (small c)

pub returns : goal.returns
returns c = record { value = whole c }
