use Rattle.std.proofs.Common.{rules, sym, ◌∙◌}
use Rattle.std.proofs.lemmas.Int.{to_z-of_z}
use Rattle.std.specs.Int.{w64}
use mir.Val.{SFits}
use Rattle.fixed_geom.proofs.boxes.contains.Goals as goal

pub returns-then-covers-clause-value : goal.returns-then-covers-clause-value
returns-then-covers-clause-value c =
    let outer_lo_x : SFits w64 c.args.outer.lo.x = search rules in
    let outer_lo_y : SFits w64 c.args.outer.lo.y = search rules in
    let outer_hi_x : SFits w64 c.args.outer.hi.x = search rules in
    let outer_hi_y : SFits w64 c.args.outer.hi.y = search rules in
    let inner_lo_x : SFits w64 c.args.inner.lo.x = search rules in
    let inner_lo_y : SFits w64 c.args.inner.lo.y = search rules in
    let inner_hi_x : SFits w64 c.args.inner.hi.x = search rules in
    let inner_hi_y : SFits w64 c.args.inner.hi.y = search rules in
    let across = simp to_z-of_z at c.covers.ensures.value in
    let along = simp to_z-of_z at c.covers-then-covers.ensures.value in
    rw (sym across ∙ c.if-covers.true) along

pub returns-then-covers-clause-contains : goal.returns-then-covers-clause-contains
returns-then-covers-clause-contains c =
    let outer_lo_x : SFits w64 c.args.outer.lo.x = search rules in
    let outer_lo_y : SFits w64 c.args.outer.lo.y = search rules in
    let outer_hi_x : SFits w64 c.args.outer.hi.x = search rules in
    let outer_hi_y : SFits w64 c.args.outer.hi.y = search rules in
    let inner_lo_x : SFits w64 c.args.inner.lo.x = search rules in
    let inner_lo_y : SFits w64 c.args.inner.lo.y = search rules in
    let inner_hi_x : SFits w64 c.args.inner.hi.x = search rules in
    let inner_hi_y : SFits w64 c.args.inner.hi.y = search rules in
    let across = simp to_z-of_z at (c.covers.ensures.covers.0 c.if-covers.true) in
    let to = simp to_z-of_z at c.covers-then-covers.ensures.covers.0 in
    let from = simp to_z-of_z at c.covers-then-covers.ensures.covers.1 in
    (λ e. record { left = across.0; right = across.1; down = (to e).0; up = (to e).1 }, λ h. from (h.down, h.up))
