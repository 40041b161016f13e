use Rattle.std.proofs.Common.{◌≡◌, true, pos, int_lt, ◌+ℤ◌, ◌*ℤ◌, ◌≤ℤ◌, arith, subst, sym, ◌∙◌, unsigned_abs}
use Rattle.std.proofs.lemmas.Bool.{false≢true}
use Rattle.std.proofs.lemmas.Int.{to_z-of_z, ints}
use Rattle.std.specs.Int.{w64, w128}
use mir.Val.{SFits}
use Rattle.fixed_geom.specs.Vectors.{dot, span}
use Rattle.fixed_geom.specs.declared.vectors.Vec2.{Vec2}
use Rattle.shapes.proofs.PointLemmas.{beyond_square, beyond_outside}
use Rattle.shapes.proofs.candidates.is_beyond.Goals as goal

pub returns : goal.returns
returns c = λ t.
    let dist : SFits w64 c.args.dist = c.ranges.dist in
    let fits : SFits w64 c.limit_of-limit.result = record { sfits = c.limit_of-limit.type_inv } in
    let whole : SFits w128 c.product.result = record { sfits = c.product.type_inv } in
    let part : SFits w128 c.dot.result = record { sfits = c.dot.type_inv } in
    let limit : c.limit_of-limit.result ≡ c.args.dist +ℤ pos 20973 = simp to_z-of_z at c.limit_of-limit.ensures.value in
    let square : c.product.result ≡ c.limit_of-limit.result *ℤ c.limit_of-limit.result = simp to_z-of_z at c.product.ensures.value in
    let squared : c.product.result ≡ (c.args.dist +ℤ pos 20973) *ℤ (c.args.dist +ℤ pos 20973) = rw limit at square in
    let dotted : c.dot.result ≡ dot c.minus-way.result c.minus-way.result = c.dot.ensures.value in
    let le : c.product.result ≤ℤ c.dot.result = grind (arith, ints) in
    subst (λ (v : Vec2). int_lt (c.args.dist +ℤ pos 20972) (span v) ≡ true) c.minus-way.ensures.value
    (beyond_square c.minus-way.result c.args.dist c.product.result c.requires.nonnegative squared (rw (← dotted) le))

pub returns-then-not-is_within : goal.returns-then-not-is_within
returns-then-not-is_within c = λ t.
    let dist : SFits w64 c.args.dist = c.ranges.dist in
    let fits : SFits w64 c.limit_of-limit.result = record { sfits = c.limit_of-limit.type_inv } in
    let limit : c.limit_of-limit.result ≡ c.args.dist +ℤ pos 20973 = simp to_z-of_z at c.limit_of-limit.ensures.value in
    let size : c.unsigned_abs.result ≡ unsigned_abs c.limit_of-limit.result = grind (arith, to_z-of_z) in
    subst (λ (v : Vec2). int_lt (c.args.dist +ℤ pos 20972) (span v) ≡ true) c.minus-way.ensures.value
    (beyond_outside c.minus-way.result c.args.dist c.unsigned_abs.result c.requires.nonnegative (rw (← limit) size) (λ w. false≢true (sym c.if-not-is_within.true ∙ c.is_within.ensures.within.1 w)))
