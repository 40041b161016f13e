use Rattle.std.proofs.Common.{rules, sym, ◌∙◌}
use Rattle.std.proofs.lemmas.Int.{to_z-of_z}
use Rattle.std.specs.Int.{w64}
use mir.Val.{SFits}
use Rattle.fixed_geom.proofs.boxes.overlaps.Goals as goal

pub returns-then-meets-clause-value : goal.returns-then-meets-clause-value
returns-then-meets-clause-value c =
    let a_lo_x : SFits w64 c.args.a.lo.x = search rules in
    let a_lo_y : SFits w64 c.args.a.lo.y = search rules in
    let a_hi_x : SFits w64 c.args.a.hi.x = search rules in
    let a_hi_y : SFits w64 c.args.a.hi.y = search rules in
    let b_lo_x : SFits w64 c.args.b.lo.x = search rules in
    let b_lo_y : SFits w64 c.args.b.lo.y = search rules in
    let b_hi_x : SFits w64 c.args.b.hi.x = search rules in
    let b_hi_y : SFits w64 c.args.b.hi.y = search rules in
    let across = simp to_z-of_z at c.meets.ensures.value in
    let along = simp to_z-of_z at c.meets-then-meets.ensures.value in
    rw (sym across ∙ c.if-meets.true) along

pub returns-then-meets-clause-overlaps : goal.returns-then-meets-clause-overlaps
returns-then-meets-clause-overlaps c =
    let a_lo_x : SFits w64 c.args.a.lo.x = search rules in
    let a_lo_y : SFits w64 c.args.a.lo.y = search rules in
    let a_hi_x : SFits w64 c.args.a.hi.x = search rules in
    let a_hi_y : SFits w64 c.args.a.hi.y = search rules in
    let b_lo_x : SFits w64 c.args.b.lo.x = search rules in
    let b_lo_y : SFits w64 c.args.b.lo.y = search rules in
    let b_hi_x : SFits w64 c.args.b.hi.x = search rules in
    let b_hi_y : SFits w64 c.args.b.hi.y = search rules in
    let across = simp to_z-of_z at (c.meets.ensures.meets.0 c.if-meets.true) in
    let to = simp to_z-of_z at c.meets-then-meets.ensures.meets.0 in
    let from = simp to_z-of_z at c.meets-then-meets.ensures.meets.1 in
    (λ e. record { left = across.0; right = across.1; down = (to e).0; up = (to e).1 }, λ h. from (h.down, h.up))
