use Rattle.std.proofs.Common.{rules, ◌≡◌, true, ap, sym, ◌∙◌}
use Rattle.fixed_geom.specs.declared.boxes.Box2.{Box2}
use Rattle.dillmonth.specs.Forms.{box_said}
use Rattle.dillmonth.proofs.FrameLaws.{finds_framed}
use Rattle.shape_rays.specs.Hits.{region}
use Rattle.world_queries.specs.Framed.{framed_shapes}
use Rattle.world_queries.specs.Limits.{is_region}
use Rattle.dillmonth.proofs.frame_reading.write_region_in.Goals as goal

pub returns-in-Ok : goal.returns-in-Ok
returns-in-Ok c =
    let within : c.is_region.result ≡ true = search rules in
    let good = sym (ap is_region c.box_of-bounds.ensures) ∙ sym c.is_region.ensures ∙ within in
    let is = c.in-Ok.ensures.shapes ∙ ap (λ (b : Box2). region b (framed_shapes c.args.frame.now.bodies)) c.box_of-bounds.ensures in
    finds_framed (box_said c.args.bounds.now) c.args.frame.now c.in-Ok.found.items c.as_slice.result.now c.args.count.now c.write_all.result c.args.out.now c.write_all.new.out good is c.as_slice.ensures.value c.write_all.ensures.count c.write_all.ensures.written
