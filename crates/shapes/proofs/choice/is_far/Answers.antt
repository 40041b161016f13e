use Rattle.std.proofs.Common.{refl, sym, ◌∙◌, subst, pos, int_lt, ◌≡◌, true}
use Rattle.std.proofs.lemmas.Bool.{false≢true}
use Rattle.std.proofs.lemmas.Int.{to_z-of_z}
use Rattle.std.specs.Int.{w64}
use mir.Val.{SFits}
use Rattle.fixed_geom.specs.Vectors.{dot}
use Rattle.fixed_geom.specs.declared.vectors.Vec2.{Vec2}
use Rattle.shapes.specs.Manifolds.{is_far}
use Rattle.shapes.proofs.PointLemmas.{far_outside}
use Rattle.shapes.proofs.choice.is_far.Goals as goal

pub returns-then-is_within : goal.returns-then-is_within
unfolding is_far
returns-then-is_within c =
    let fits : SFits w64 c.dot_64.result = record { sfits = c.dot_64.type_inv } in
    simp to_z-of_z (rw (c.dot_64.ensures.value, c.minus-way.ensures.value) refl)

pub returns-else-is_within : goal.returns-else-is_within
unfolding is_far
returns-else-is_within c =
    let far = far_outside c.minus-way.result (λ w. false≢true (sym c.if-is_within.false ∙ c.is_within.ensures.within.1 w)) in
    sym (subst (λ (v : Vec2). int_lt (pos 439824784) (dot v v) ≡ true) c.minus-way.ensures.value far)
